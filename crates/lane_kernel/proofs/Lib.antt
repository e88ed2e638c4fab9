pub mod Lookups
pub mod Chunks
pub mod FourSums
