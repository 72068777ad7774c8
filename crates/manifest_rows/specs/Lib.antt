pub mod Steps
pub mod Stored
