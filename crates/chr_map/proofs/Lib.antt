pub mod Between
pub mod Changed
pub mod Clauses
pub mod Lookups
pub mod Ordered
pub mod Parts
pub mod Runs
