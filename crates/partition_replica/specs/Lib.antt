pub mod State
pub mod Sound
pub mod Moves
pub mod Coming
pub mod Inside
