pub mod Texts
pub mod Accepted
pub mod Over
pub mod Presence
pub mod Slots
