pub mod Layers
pub mod Theorems
