pub mod Inserting
pub mod FinalTokens
