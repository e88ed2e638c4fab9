pub mod Calling
pub mod Chain
pub mod Entering
pub mod Leaving
pub mod Naming
pub mod Placing
