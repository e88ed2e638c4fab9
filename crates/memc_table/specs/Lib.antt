pub mod Act
pub mod Asked
pub mod Contents
pub mod Expiry
pub mod Numeral
pub mod Ruling
pub mod Table
