-- How bytes are packed into words, and compared as words.
pub mod Words
pub mod Straddling
pub mod Payloads
