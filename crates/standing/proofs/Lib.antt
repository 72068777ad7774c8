pub mod Placing
pub mod Staying
pub mod Small
pub mod Reading
