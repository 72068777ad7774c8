pub mod Wide
pub mod Placed
pub mod Entering
pub mod Sorting
pub mod Mapped
