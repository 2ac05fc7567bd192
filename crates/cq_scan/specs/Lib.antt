pub mod Match
pub mod Found
pub mod Pairs
