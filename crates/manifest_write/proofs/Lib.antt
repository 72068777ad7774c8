-- The laws that the proofs of several functions cite.
pub mod Answers
pub mod Bounds
pub mod Heads
pub mod Lists
pub mod New
pub mod Wrotes
