pub mod Calls
pub mod Lines
pub mod Problems
pub mod Runs
