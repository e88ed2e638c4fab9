pub mod Numbers
mod Paging
pub mod Ranges
pub mod Links
pub mod Refused
pub mod Sent
pub mod Standing
pub mod Cut
pub mod Treated
pub mod Delivered
mod Admitting
mod Dropped
mod Unmade
