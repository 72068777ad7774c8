pub mod After
pub mod Steps
