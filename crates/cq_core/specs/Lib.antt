pub mod Cores
pub mod Readings
pub mod Steps
pub mod Views
