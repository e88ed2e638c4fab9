pub mod Lists
pub mod Partitions
pub mod Nodes
pub mod Weights
pub mod Decoding
pub mod Sums
