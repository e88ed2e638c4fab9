pub mod Meaning
pub mod Playing
pub mod Promises
pub mod Script
pub mod Texts
