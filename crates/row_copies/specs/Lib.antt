pub mod Coming
pub mod Row
pub mod Laws
