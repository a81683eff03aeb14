pub mod Rows
pub mod Doing
pub mod Trying
pub mod Judging
pub mod Smalls
pub mod Expanding
