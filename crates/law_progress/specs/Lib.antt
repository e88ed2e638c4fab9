pub mod Drains
pub mod Ends
pub mod FewWaits
pub mod Quiets
