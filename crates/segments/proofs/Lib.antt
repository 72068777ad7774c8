pub mod Answers
pub mod Demand3
pub mod Fronts
pub mod Nests
pub mod Places
