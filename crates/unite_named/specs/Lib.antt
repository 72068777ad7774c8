pub mod Named
pub mod Steps
