pub mod Places
pub mod Brackets
pub mod Levels
pub mod Names
pub mod Functions
pub mod Tables
pub mod GoTables
pub mod Walks
