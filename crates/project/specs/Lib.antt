pub mod Project
pub mod Answer
pub mod Steps
