pub mod Bounding
pub mod Arranged
pub mod Rows
pub mod Steps
pub mod Sorted
