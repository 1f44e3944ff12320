mod Complete
mod Sound
mod Viable
mod Limits
pub mod Steps
pub mod Sections
pub mod Listings
pub mod Views
pub mod Halted
mod Learned
mod OneReading
