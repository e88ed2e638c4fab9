pub mod Draining
pub mod Leading
pub mod Promises
pub mod Ranges
pub mod Regrouping
pub mod Running
