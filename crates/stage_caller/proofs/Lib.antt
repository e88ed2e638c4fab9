pub mod Stepping
pub mod Coming
pub mod Deaths
pub mod Links
