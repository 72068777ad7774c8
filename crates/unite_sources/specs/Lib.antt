pub mod Source
pub mod Used
pub mod Prefixed
pub mod Rows
