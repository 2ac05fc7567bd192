pub mod Following
pub mod Growing
pub mod Raising
pub mod ShardSteps
pub mod Soloing
pub mod Staying
