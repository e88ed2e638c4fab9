pub mod Free
pub mod Kept
pub mod Order
pub mod Runs
pub mod Shelf
pub mod Shelves
