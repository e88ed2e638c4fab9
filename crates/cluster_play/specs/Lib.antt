pub mod Doing
pub mod Language
pub mod Reads
