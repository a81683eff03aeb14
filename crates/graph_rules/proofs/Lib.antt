pub mod Allowed
pub mod Graphs
