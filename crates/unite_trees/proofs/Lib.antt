pub mod Numbers
pub mod Parts
