pub mod Scan
pub mod Tokens
pub mod Texts
pub mod Back
pub mod Drawn
pub mod Fronts
pub mod Literal
