pub mod Slot
pub mod Writing
pub mod Splicing
pub mod Path
pub mod Settling
pub mod Counting
pub mod Building
