pub mod Parsers
pub mod Words
