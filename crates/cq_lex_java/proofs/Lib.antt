pub mod Opening
pub mod Spans
pub mod Translating
pub mod Scalars
pub mod NoEscapes
pub mod Counting
pub mod TextBlocks
