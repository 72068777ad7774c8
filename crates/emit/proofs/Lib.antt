pub mod Columns
pub mod Keys
pub mod Laid
pub mod Rows
