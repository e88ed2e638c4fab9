pub mod Borne
pub mod Cutting
pub mod Downed
pub mod Histories
pub mod Parted
pub mod Places
pub mod Promised
