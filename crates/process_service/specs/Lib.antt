pub mod Coming
pub mod Current
pub mod Inherited
pub mod Noticing
pub mod Paging
pub mod Standing
pub mod Steps
pub mod Wanting
