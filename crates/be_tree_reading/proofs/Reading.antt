-- What a cursor reads, and the numbers at the ends of keys.
pub mod Cursors
pub mod Backward
pub mod LastBytes
pub mod Leaves
pub mod Starts
