pub mod Selects
pub mod Back
pub mod Codes
