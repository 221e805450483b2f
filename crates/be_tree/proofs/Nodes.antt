-- The items of unwritten nodes: as slots, and from one page or two neighbours under one parent.
pub mod Slots
pub mod PageStates
pub mod SlotLists
pub mod Neighbours
pub mod Children
pub mod Joins
pub mod Writes
