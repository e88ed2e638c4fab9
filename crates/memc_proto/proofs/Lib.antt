pub mod Keys
pub mod Onward
pub mod Reading
pub mod Spaces
pub mod Steps
pub mod Texts
