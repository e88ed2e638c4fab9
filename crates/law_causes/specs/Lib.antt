pub mod Calls
pub mod Drained
pub mod Flushing
pub mod Unfinished
pub mod Values
pub mod Waiting
pub mod Worked
