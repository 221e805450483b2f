-- Removing a key from a tree, and giving up a tree.
pub mod Removes
pub mod Rests
pub mod Clears
