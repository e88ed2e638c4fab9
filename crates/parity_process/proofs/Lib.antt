pub mod Beneath
pub mod Marks
pub mod Standing
pub mod Waiting
pub mod Starting
mod Fitting
