mod Answering
pub mod Coming
mod Knowing
mod Naming
