pub mod Seat
pub mod Settling
pub mod Least
pub mod Tidying
pub mod Steps
mod Blind
mod Follows
mod Deciding
pub mod Machine
pub mod Paging
mod Wanting
