pub mod Acknowledged
pub mod Begun
pub mod Carry
pub mod Closed
pub mod Laws
pub mod Reading
pub mod Told
