pub mod Judge
pub mod Law
pub mod Steps
