pub mod Keyed
pub mod Windows
pub mod NextKeys
mod Spellings
mod TextLines
mod Scalars
mod Translated
mod Standing
mod Inserted
mod Placed
mod Compared
mod Covered
pub mod FunctionLists
mod Described
pub mod Bounded
mod Counted
