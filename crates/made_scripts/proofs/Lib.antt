pub mod Lines
pub mod Made
pub mod Rounds
pub mod Words
