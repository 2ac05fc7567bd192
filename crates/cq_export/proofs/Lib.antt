mod Conditions
mod Accepting
mod Running
mod Holding
mod Showing
mod Ended
mod Sounding
mod Lexings
mod OneReply
pub mod Rereading
mod SessionsBeside
mod Sessions
