pub mod Cutting
pub mod Fits
pub mod Frame
pub mod Parts
pub mod Reading
pub mod Stream
