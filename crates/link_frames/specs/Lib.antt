pub mod Cuts
pub mod Found
pub mod Limits
pub mod Links
pub mod Requests
pub mod Spelling
pub mod Texts
