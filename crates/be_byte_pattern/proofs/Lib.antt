pub mod LiteralRuns
pub mod Bytes
pub mod CanonicalStarts
