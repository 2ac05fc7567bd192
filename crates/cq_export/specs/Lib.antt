pub mod Lines
pub mod Boards
pub mod Exports
pub mod Laws
pub mod Beside
