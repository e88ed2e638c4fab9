pub mod Emptying
pub mod Showing
