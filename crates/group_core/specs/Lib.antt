pub mod Items
pub mod Links
pub mod NodeList
pub mod Pairs
pub mod Runs
pub mod Schedules
pub mod Seats
