pub mod Union
pub mod Steps
