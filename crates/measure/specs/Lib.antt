pub mod Measure
pub mod Placed
pub mod Tests
pub mod Walk
pub mod Within
