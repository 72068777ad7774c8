pub mod Encoded
pub mod InTables
pub mod Read
pub mod Lookup
pub mod Select
pub mod Insert
pub mod Steps
pub mod Least
