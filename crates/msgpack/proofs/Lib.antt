-- The laws that the proofs of several functions cite.
pub mod Numbers
pub mod Forms
pub mod Heads
pub mod Skips
pub mod Ahead
pub mod Told
pub mod Others
pub mod Signs
