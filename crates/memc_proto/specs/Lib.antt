pub mod Line
pub mod Reader
pub mod Reads
pub mod Request
pub mod Step
pub mod Store
pub mod Text
pub mod Words
