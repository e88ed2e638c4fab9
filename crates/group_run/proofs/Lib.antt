pub mod Locality
pub mod Deciding
