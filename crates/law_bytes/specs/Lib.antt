pub mod Areas
pub mod Decoding
pub mod Held
pub mod Leading
