pub mod Crosses
pub mod Shots
