pub mod Owns
pub mod Lengths
pub mod Clones
