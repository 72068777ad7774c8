pub mod Handed
pub mod Own
pub mod Rows
