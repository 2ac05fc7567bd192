pub mod Asked
pub mod Taken
pub mod Kept
pub mod Exported
