pub mod Forms
pub mod Parts
pub mod Reading
pub mod Texts
