pub mod Front
pub mod Answers
pub mod Conflicts
pub mod Entering
pub mod Held
pub mod Parts
