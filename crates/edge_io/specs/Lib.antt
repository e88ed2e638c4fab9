pub mod Arrivals
pub mod Calls
pub mod Connections
pub mod Faults
pub mod Memory
pub mod Moving
pub mod Reading
pub mod Writing
