pub mod Changes
pub mod Lines
pub mod Measures
pub mod Places
pub mod Refusals
pub mod Settings
pub mod Tables
