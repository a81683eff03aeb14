pub mod Graphs
pub mod Theorems
