pub mod Versions
pub mod Stored
pub mod CatalogPairs
pub mod IndexEntries
pub mod Asking
pub mod Reported
