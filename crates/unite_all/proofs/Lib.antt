pub mod Agreed
pub mod Exits
