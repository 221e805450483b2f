-- The shape of a tree: what is below a node, and how high it is.
pub mod Below
pub mod Levels
pub mod Heights
pub mod Roots
