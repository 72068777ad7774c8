pub mod Below
pub mod Supplies
pub mod Grouping
pub mod Gathering
pub mod Lifts
