-- The worked examples: programs and queries as trees.
pub mod Terms
pub mod Example
pub mod Runs
pub mod Numbers
pub mod Speculation
pub mod Syntaxes
pub mod Searches
pub mod Desks
pub mod Calls
pub mod Schedules
pub mod Suspicions
pub mod Verdicts
pub mod Effects
pub mod Profiles
