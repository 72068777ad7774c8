pub mod Tree
pub mod Merge
pub mod Answer
pub mod Rows
pub mod Steps
pub mod Finds
