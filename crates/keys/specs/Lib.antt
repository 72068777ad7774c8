pub mod Pick
pub mod Says
pub mod Key
pub mod Prefix
pub mod Range
pub mod Meet
pub mod Pool
pub mod BigEndian
