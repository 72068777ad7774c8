pub mod Id
pub mod Names
