mod Lists
mod Ranks
pub mod Counts
pub mod Collected
pub mod KeysOf
pub mod Volumes
pub mod Orders
pub mod Room
pub mod Adding
pub mod Finishing
pub mod Storing
pub mod Indices
pub mod Beginning
mod Errors
