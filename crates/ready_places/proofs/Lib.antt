pub mod Each
pub mod Queue
