pub mod Codes
pub mod Cuts
pub mod Keys
mod Many
pub mod Messages
pub mod Puts
pub mod Spelled
pub mod Streams
