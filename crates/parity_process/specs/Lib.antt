pub mod Coming
pub mod Standing
pub mod Marking
pub mod Opening
pub mod Closing
