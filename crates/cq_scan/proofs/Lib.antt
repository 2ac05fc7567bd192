pub mod Matching
pub mod Places
pub mod FoundGroups
pub mod Ordered
