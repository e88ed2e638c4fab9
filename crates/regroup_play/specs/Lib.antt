pub mod Carrying
pub mod Doing
pub mod Language
