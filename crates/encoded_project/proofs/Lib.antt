pub mod Args
pub mod Giving
pub mod Keeping
pub mod Rooms
