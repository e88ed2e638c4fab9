pub mod Sums
pub mod Doubling
pub mod Powers
pub mod Products
pub mod Logarithms
pub mod Nibbles
pub mod Vectors
pub mod FieldSums
