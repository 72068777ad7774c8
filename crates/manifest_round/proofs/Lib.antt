pub mod Lawful
pub mod Read
pub mod Round
pub mod Well
