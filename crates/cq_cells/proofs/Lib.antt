pub mod Fronts
pub mod Owns
pub mod Keeps
pub mod Passing
pub mod Counting
