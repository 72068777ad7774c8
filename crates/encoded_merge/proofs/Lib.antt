pub mod Giving
pub mod Merging
