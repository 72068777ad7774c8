pub mod Answers
pub mod Kept
pub mod Results
pub mod Shorts
pub mod Standing
pub mod Wholes
