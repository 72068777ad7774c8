pub mod Apart
pub mod Arms
pub mod Judges
pub mod Loops
pub mod Neighbours
pub mod New
pub mod Pairs
pub mod Rules
