mod Accepting
mod Behind
mod Refusing
pub mod Telling
