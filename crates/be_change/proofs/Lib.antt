pub mod Comparing
pub mod Left
pub mod Outcomes
pub mod Written
