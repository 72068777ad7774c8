pub mod Written
pub mod Moves
