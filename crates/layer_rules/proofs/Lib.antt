pub mod Layers
pub mod Limits
pub mod Repeats
