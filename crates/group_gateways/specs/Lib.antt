pub mod Rules
pub mod Order
