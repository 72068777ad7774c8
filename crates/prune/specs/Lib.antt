pub mod Prune
