pub mod Life
pub mod Promise
pub mod Example
