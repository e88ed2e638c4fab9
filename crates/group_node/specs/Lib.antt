pub mod Asking
pub mod Delivering
pub mod Roles
pub mod Rooms
pub mod Standing
pub mod Steps
