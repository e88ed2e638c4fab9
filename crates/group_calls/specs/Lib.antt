pub mod Log
pub mod Turns
pub mod Within
