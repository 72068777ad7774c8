pub mod Config
pub mod Own
pub mod Action
pub mod Args
pub mod Steps
