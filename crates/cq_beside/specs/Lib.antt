pub mod Besides
pub mod Replies
pub mod Served
