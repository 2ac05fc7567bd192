pub mod Callers
pub mod Counts
pub mod Rule
pub mod Steps
pub mod Items
pub mod Passes
