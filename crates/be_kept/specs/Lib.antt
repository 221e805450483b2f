pub mod Crc
pub mod Rows
pub mod Files
pub mod Writing
pub mod Reading
pub mod Batches
pub mod Listings
pub mod History
