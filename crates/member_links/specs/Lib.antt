pub mod Stages
pub mod Ages
pub mod Greetings
