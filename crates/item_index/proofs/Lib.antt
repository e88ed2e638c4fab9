pub mod AsMap
pub mod Listing
pub mod Ready
