pub mod Carrying
pub mod Fitting
pub mod Items
pub mod Kept
pub mod Last
pub mod Laws
pub mod Parts
pub mod Reading
