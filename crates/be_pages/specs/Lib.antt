pub mod Pages
pub mod PageSet
pub mod FreePages
pub mod PagePool
pub mod Place
pub mod Refusal
pub mod VecRoom
