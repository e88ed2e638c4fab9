pub mod Awaited
pub mod Rebuilt
pub mod Opened
pub mod Leading
