pub mod Growing
pub mod Walking
pub mod Standing
pub mod Connecting
