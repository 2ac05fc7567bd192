pub mod Snapshot
pub mod Loaded
