pub mod By
