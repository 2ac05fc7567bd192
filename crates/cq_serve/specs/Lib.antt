pub mod Turns
pub mod Labours
