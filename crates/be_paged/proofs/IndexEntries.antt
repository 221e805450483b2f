-- A version's indices: their entries and keys, and how both change.
pub mod Repairs
pub mod EntryChange
pub mod Making
pub mod Settled
