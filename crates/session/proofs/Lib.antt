pub mod Steps
pub mod Lives
