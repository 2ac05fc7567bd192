pub mod Unpicked
pub mod Firsts
pub mod Kept
