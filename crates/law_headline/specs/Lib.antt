pub mod Laws
pub mod Recovering
pub mod Shown
