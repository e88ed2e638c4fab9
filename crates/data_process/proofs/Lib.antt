pub mod Adding
mod Admitting
pub mod Fitting
mod Rows
pub mod Standing
