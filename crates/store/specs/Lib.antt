pub mod Interface
pub mod Shown
pub mod Slots
pub mod Stores
pub mod Theorems
