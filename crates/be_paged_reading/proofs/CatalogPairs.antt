-- The pairs of the catalog, and the nodes and attributes that they encode.
pub mod Finding
pub mod Places
pub mod Validity
pub mod Segments
pub mod NodeKeys
pub mod Payloads
pub mod Items
pub mod FactValues
pub mod Marks
