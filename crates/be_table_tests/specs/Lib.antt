pub mod Imports
pub mod Resting
