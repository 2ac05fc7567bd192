pub mod Statuses
pub mod Top
pub mod Complete
pub mod Agreeing
