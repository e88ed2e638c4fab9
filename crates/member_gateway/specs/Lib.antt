pub mod Calls
pub mod Changing
pub mod Rules
pub mod Order
pub mod Laws
