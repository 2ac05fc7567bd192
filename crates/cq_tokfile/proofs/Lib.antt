pub mod Decoded
pub mod Written
pub mod Indexing
