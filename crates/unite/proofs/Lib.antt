pub mod Answers
pub mod Lifted
pub mod Plain
pub mod Given
