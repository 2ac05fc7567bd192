pub mod Kept
pub mod Normal
