pub mod Away
pub mod Down
pub mod Known
pub mod State
