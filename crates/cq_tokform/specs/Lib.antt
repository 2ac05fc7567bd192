pub mod Spelling
pub mod Sound
pub mod Reading
pub mod Writing
pub mod Laws
