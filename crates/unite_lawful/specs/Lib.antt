pub mod Naming
pub mod Sources
