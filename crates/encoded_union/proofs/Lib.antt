pub mod Rows
pub mod Gather
pub mod Sofar
pub mod Standing
