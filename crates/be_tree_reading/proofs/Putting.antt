-- Putting a pair into a tree.
pub mod Puts
