-- The shape of a tree: what is below a node, how high it is, and how its parts are replaced.
pub mod Parts
