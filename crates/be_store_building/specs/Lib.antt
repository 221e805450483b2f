pub mod FirstPages
pub mod Building
pub mod Failing
pub mod Inside
