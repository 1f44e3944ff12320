pub mod Accepted
pub mod Standing
