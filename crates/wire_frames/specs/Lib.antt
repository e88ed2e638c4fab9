pub mod Faults
pub mod Framed
pub mod Line
pub mod Pieces
