pub mod Words
pub mod Arranging
pub mod Naming
pub mod Listing
pub mod Gathering
pub mod Sharing
pub mod Results
