pub mod Since
