pub mod SharedPasses
pub mod Deeds
pub mod Calls
pub mod Answers
pub mod Advancing
