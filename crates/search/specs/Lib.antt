pub mod Moves
pub mod Does
pub mod Parts
pub mod Steps
pub mod Numbers
pub mod Lines
pub mod Solve
