pub mod Dimensions
pub mod Shape
pub mod Key
pub mod Hash
pub mod Pieces
pub mod Lists
pub mod Names
pub mod Each
