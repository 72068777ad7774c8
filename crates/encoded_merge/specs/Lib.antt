pub mod Merge
pub mod Steps
