pub mod Form
pub mod Head
pub mod Skip
pub mod Read
