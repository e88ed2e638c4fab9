pub mod ClusterTexts
pub mod Clusters
pub mod EraTexts
pub mod Eras
pub mod Lines
pub mod Regroups
pub mod Verified
