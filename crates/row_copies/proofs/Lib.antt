pub mod Areas
pub mod Awaiting
pub mod Each
pub mod Marked
pub mod Added
pub mod Ceased
pub mod Machine
