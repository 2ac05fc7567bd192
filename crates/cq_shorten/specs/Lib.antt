pub mod Needed
pub mod Worked
pub mod Keeping
pub mod Shortened
