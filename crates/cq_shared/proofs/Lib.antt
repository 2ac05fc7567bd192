pub mod Calling
pub mod Reading
pub mod Applying
pub mod SweptShards
