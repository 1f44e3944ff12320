pub mod Entries
pub mod Order
pub mod Places
pub mod Taking
