pub mod Imports
pub mod Asked
pub mod Firsts
pub mod Ordered
pub mod Pages
pub mod Walks
