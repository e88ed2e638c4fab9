pub mod Told
pub mod Logged
pub mod Laws
