pub mod Strategy
pub mod Check
pub mod Write
pub mod Theorems
pub mod Writing
