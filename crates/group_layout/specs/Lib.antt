pub mod Cluster
pub mod Layout
pub mod Legal
pub mod Promise
pub mod Within
