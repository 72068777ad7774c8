pub mod Pieces
pub mod Laying
