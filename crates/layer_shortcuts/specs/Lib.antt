pub mod Shortcuts
pub mod Theorems
