pub mod Actions
pub mod Contains
pub mod Faults
pub mod Filters
pub mod Rows
pub mod Told
