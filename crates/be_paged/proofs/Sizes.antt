-- How many pages a version has.
pub mod Keys
pub mod Items
pub mod Stopping
