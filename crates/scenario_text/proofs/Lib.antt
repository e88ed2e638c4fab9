pub mod ActWords
pub mod LineWords
pub mod Limits
pub mod Lines
mod Placing
pub mod Read
pub mod Stamps
pub mod Values
