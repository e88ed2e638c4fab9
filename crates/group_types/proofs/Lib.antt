pub mod Places
pub mod Lists
pub mod Names
pub mod Eaches
pub mod Hashes
