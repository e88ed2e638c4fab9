pub mod Coefficients
pub mod Terms
mod Fours
pub mod Parts
pub mod Recovery
pub mod Solutions
pub mod Filling
pub mod Progress
