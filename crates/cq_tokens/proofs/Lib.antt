pub mod Order
pub mod Places
pub mod Texts
pub mod Sizes
