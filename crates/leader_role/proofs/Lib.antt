mod Dead
mod Counting
mod Finding
mod Steps
mod Coming
mod Opening
mod Noticed
pub mod Laws
mod Ranges
