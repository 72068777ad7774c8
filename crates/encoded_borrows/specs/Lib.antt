pub mod Owned
pub mod Clone
pub mod Steps
