pub mod Texts
pub mod Puts
pub mod Asked
pub mod Told
