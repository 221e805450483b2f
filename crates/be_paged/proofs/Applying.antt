-- One operation on a version, and a list of operations.
pub mod Stepping
pub mod Replacing
pub mod Hand
pub mod Composing
pub mod Dropping
pub mod Emptying
pub mod Applied
