-- The indices of a version: their entries and keys, and how both change.
pub mod Indexing
pub mod IndexKeys
pub mod RootSetting
