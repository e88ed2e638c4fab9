pub mod Draining
pub mod Leading
pub mod Lightening
pub mod Meaning
pub mod Promises
pub mod Running
