pub mod Pages
pub mod Order
pub mod Loans
pub mod Spaces
