pub mod Come
pub mod Noticed
pub mod Queued
