-- A version as its page stores it, and what that page says.
pub mod EmptyVolume
pub mod OneVolume
