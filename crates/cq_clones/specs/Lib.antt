pub mod Lists
pub mod Groups
pub mod Windows
pub mod Readers
