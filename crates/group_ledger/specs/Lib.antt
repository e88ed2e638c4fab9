pub mod Accounts
pub mod Books
pub mod Laws
pub mod Taking
