pub mod Judging
pub mod Sources
