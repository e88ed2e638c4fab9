pub mod Field
pub mod Halves
pub mod Vectors
