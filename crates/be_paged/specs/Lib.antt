pub mod Imports
pub mod Changes
pub mod Stops
