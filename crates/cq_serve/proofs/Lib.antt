pub mod Hands
pub mod Easing
pub mod Turning
pub mod Labouring
