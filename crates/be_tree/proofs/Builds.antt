-- A tree that is built from pairs in ascending order.
pub mod Fewest
pub mod Parts
pub mod Leaves
pub mod Levels
pub mod Ends
