pub mod Behind
pub mod Calling
pub mod Callers
pub mod Laws
pub mod Making
