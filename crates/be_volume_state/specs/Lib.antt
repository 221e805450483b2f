pub mod Places
pub mod Rebuilding
