pub mod Manifest
pub mod Answers
