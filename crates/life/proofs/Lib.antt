pub mod Accepted
pub mod Writing
pub mod Lives
pub mod Keeping
pub mod Example
