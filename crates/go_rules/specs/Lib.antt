pub mod Groups
pub mod Rules
pub mod Play
pub mod Text
pub mod Rulebook
