pub mod Endings
pub mod Seats
