pub mod Fits
pub mod Places
