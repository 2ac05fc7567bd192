pub mod Hubs
pub mod Says
pub mod Views
pub mod Answers
pub mod Shards
pub mod Comings
pub mod Solos
pub mod SoloPasses
