pub mod BigEndian
pub mod Ids
pub mod Words
