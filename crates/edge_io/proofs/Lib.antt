pub mod Giving
pub mod Moving
