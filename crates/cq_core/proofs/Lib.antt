pub mod Applying
pub mod Fresh
pub mod Numbering
pub mod ReadEntries
pub mod Stepping
pub mod Sweeping
