pub mod Machine
pub mod Laws
pub mod Shown
pub mod Lowest
