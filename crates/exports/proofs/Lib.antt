pub mod Selects
pub mod Projects
