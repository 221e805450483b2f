pub mod Imports
pub mod Ways
