pub mod Arguments
pub mod Replies
