pub mod Walks
pub mod Props
