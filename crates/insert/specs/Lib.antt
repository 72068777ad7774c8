pub mod Insert
pub mod Nesting
