pub mod Places
pub mod Unions
pub mod Addresses
pub mod Spaces
