pub mod Keys
pub mod Laws
pub mod Counts
pub mod Lexing
pub mod Work
pub mod Shown
pub mod Bounds
