-- A version as its page stores it, and what the page encodes.
pub mod Codec
pub mod UsedWords
pub mod PageIndices
