pub mod Calls
pub mod Changed
pub mod Closed
