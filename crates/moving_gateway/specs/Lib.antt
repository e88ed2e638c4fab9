pub mod Told
pub mod Rules
pub mod Order
