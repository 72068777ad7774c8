pub mod Lending
pub mod Uniting
