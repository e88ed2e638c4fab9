pub mod Script
pub mod Tables
pub mod Updates
pub mod Losses
pub mod Takeovers
pub mod TwoLost
