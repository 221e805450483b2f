pub mod States
pub mod Encoding
pub mod Errors
pub mod Volumes
pub mod Calls
