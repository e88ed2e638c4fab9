pub mod Calls
pub mod Reading
pub mod System
pub mod Laws
