pub mod Phases
pub mod Keeps
pub mod Marks
pub mod Slips
pub mod Picks
