pub mod Bools
pub mod Strategy
pub mod Walk
pub mod Accepting
pub mod Bisimilar
pub mod Write
