pub mod Place
pub mod Keys
pub mod Given
pub mod Building
pub mod Errors
