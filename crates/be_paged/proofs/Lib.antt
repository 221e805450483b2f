pub mod StayingVersion
pub mod Stored
pub mod IndexEntries
pub mod Applying
pub mod Sizes
