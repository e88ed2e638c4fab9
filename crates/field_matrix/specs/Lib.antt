pub mod Grids
pub mod Cauchy
pub mod Steps
