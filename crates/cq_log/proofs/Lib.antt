pub mod Growing
mod Saying
mod Running
mod Feeds
pub mod Mended
pub mod Stopped
