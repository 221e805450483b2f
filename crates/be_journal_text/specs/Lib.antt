pub mod Dump
pub mod Finding
pub mod History
pub mod Parts
