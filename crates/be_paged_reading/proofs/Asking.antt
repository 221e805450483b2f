-- What a query reads from a version.
pub mod Walks
pub mod SourceKeys
pub mod RangeNodes
pub mod PassingNodes
pub mod Picking
pub mod Counting
pub mod SeenValues
