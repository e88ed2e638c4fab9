pub mod Begun
pub mod History
pub mod Parts
pub mod Plan
pub mod Promise
