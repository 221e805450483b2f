-- How bytes are packed into words, and compared as words.
pub mod Zeros
pub mod Branches
pub mod Joining
