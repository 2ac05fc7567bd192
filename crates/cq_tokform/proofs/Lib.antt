pub mod Fields
mod Records
mod Counted
pub mod Appended
mod FileForms
pub mod Framed
pub mod Announcing
mod Heads
mod InOrder
pub mod Wholes
