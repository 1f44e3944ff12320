pub mod Places
pub mod Refused
pub mod Standing
