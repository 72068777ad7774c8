pub mod Place
pub mod Prefixes
pub mod Refuses
pub mod Insert
pub mod Lookup
pub mod Select
