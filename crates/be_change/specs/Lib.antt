pub mod Imports
pub mod Changing
pub mod Collecting
pub mod Ending
pub mod Comparing
pub mod Left
