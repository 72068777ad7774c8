pub mod Layout
pub mod Window
