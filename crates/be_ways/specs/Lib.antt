pub mod Imports
pub mod Text
pub mod Ways
