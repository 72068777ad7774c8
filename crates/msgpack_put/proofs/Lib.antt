-- The laws that the proofs of several functions cite.
pub mod Puts
pub mod Signs
pub mod Round
pub mod Back
pub mod Well
pub mod Sizes
pub mod Examples
