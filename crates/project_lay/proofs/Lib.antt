pub mod Adds
pub mod After
pub mod Listing
pub mod Puts
