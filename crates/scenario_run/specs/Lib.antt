pub mod Course
pub mod Lines
pub mod Marks
pub mod Placing
pub mod Playing
pub mod Promises
pub mod Script
