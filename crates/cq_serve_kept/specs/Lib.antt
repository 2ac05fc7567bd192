pub mod Reloads
pub mod Continued
