pub mod Taken
pub mod Counts
pub mod Passing
pub mod Escapes
pub mod Folds
pub mod Sets
