pub mod Drafts
pub mod Edits
pub mod Ordered
pub mod Projects
pub mod Spotted
