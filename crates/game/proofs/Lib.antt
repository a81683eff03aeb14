pub mod Plays
pub mod Bounds
pub mod Prefixes
pub mod Kept
pub mod Value
