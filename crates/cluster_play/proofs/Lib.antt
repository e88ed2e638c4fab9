pub mod Cuts
pub mod Delivering
pub mod Lines
pub mod Logged
pub mod Ranges
pub mod Ready
