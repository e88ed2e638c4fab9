pub mod Delivering
pub mod Ending
pub mod Lines
pub mod Shapes
pub mod Treating
pub mod Whole
pub mod Writing
