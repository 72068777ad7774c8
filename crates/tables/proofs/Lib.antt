pub mod Holds
pub mod Joined
pub mod Windows
pub mod Writes
pub mod Copies
