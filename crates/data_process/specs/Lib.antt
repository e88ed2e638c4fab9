pub mod Coming
pub mod Values
pub mod Reading
pub mod Standing
pub mod Steps
