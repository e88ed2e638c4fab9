pub mod Sound
pub mod Starting
pub mod Laws
