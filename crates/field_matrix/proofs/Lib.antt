pub mod Products
pub mod Steps
pub mod Pivots
pub mod Inverses
pub mod Rows
