mod Lines
pub mod Taken
pub mod ReadEntries
pub mod InView
pub mod GivenUp
pub mod Runs
