pub mod Queue
pub mod Placed
pub mod Lends
