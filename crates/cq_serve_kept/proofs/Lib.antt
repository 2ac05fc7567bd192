pub mod Continuing
pub mod Ending
pub mod FirstPass
pub mod Lowering
pub mod Mended
pub mod Took
pub mod Refusing
