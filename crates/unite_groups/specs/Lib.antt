pub mod Sets
pub mod Groups
pub mod Chosen
pub mod Rows
pub mod Steps
