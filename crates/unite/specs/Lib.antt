pub mod United
pub mod Answer
pub mod Steps
