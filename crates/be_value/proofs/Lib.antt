pub mod KeyOrder
pub mod KeyPairs
pub mod Digits
