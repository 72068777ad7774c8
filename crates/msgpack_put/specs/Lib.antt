pub mod Write
pub mod Sign
