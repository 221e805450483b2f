pub mod Aside
pub mod Break
pub mod Bytes
pub mod Conversation
pub mod Escape
pub mod Screen
pub mod Terminal
