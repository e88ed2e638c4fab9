pub mod Asking
pub mod Beginning
pub mod Calling
pub mod Coming
pub mod Keeping
pub mod Listing
mod Ordering
pub mod Telling
