pub mod Called
pub mod Opening
pub mod Ending
pub mod Lasting
pub mod Bridging
pub mod Finding
pub mod Logged
