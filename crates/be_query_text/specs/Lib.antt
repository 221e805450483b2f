pub mod Places
pub mod Steps
pub mod Described
pub mod Ranges
pub mod Encoded
pub mod Cases
pub mod EncodedComparisons
