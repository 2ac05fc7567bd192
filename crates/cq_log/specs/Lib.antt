pub mod Logs
pub mod Mending
pub mod Takers
pub mod Reads
pub mod Laws
pub mod Worked
