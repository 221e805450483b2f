pub mod Page
pub mod Reply
pub mod Request
pub mod Values
pub mod View
pub mod Words
