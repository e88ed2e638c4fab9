pub mod Deliveries
pub mod Laws
pub mod Numbers
pub mod Rules
pub mod Steps
pub mod Tickets
