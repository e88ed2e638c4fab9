pub mod Delivering
pub mod Faults
pub mod Service
pub mod Serving
pub mod Steps
pub mod Told
