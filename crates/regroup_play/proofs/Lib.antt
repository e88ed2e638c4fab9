pub mod Bases
pub mod Delivering
pub mod Judging
pub mod Lines
pub mod Logged
pub mod Shapes
pub mod Stamps
pub mod Written
