pub mod Exits
pub mod Opens
pub mod Writes
pub mod Looks
pub mod Inserts
