pub mod Project
pub mod Steps
