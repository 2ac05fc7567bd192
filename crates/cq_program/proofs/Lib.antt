pub mod Complete
mod Kept
mod Ended
mod LogEnds
mod Closing
mod Agreeing
