pub mod Draws
pub mod Rounds
pub mod Script
