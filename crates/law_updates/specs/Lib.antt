pub mod Decisions
pub mod Fine
pub mod Laws
pub mod Placing
pub mod Right
pub mod Store
