pub mod Verdict
pub mod Calls
pub mod Counts
pub mod Decisions
pub mod Extents
pub mod Measures
pub mod Parted
pub mod Sorted
