pub mod AsMap
pub mod Keys
pub mod Places
