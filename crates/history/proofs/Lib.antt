pub mod History
pub mod Tables
