pub mod Causes
pub mod Sending
pub mod Memory
pub mod Doors
pub mod Standard
