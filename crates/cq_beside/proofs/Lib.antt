pub mod Gathering
pub mod Served
pub mod OthersQuiet
