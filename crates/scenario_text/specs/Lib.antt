pub mod Acts
pub mod Meaning
pub mod Reads
pub mod Texts
pub mod Words
