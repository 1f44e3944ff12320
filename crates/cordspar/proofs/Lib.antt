pub mod Freed
pub mod Handles
pub mod Lines
pub mod Values
