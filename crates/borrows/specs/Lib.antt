pub mod Owned
pub mod Places
pub mod Clone
pub mod Bare
pub mod Answer
