pub mod Judging
pub mod Words
