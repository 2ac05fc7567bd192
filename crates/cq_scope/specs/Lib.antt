pub mod Paths
pub mod Fits
pub mod Rows
pub mod Chosen
pub mod Laws
