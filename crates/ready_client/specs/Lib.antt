pub mod Asking
pub mod Calling
pub mod Coming
pub mod Ordered
