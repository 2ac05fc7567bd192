pub mod Reaching
pub mod InRow
pub mod Counts
pub mod Positions
pub mod Fronts
