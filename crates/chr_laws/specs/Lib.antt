pub mod Kept
pub mod Replay
pub mod Rounds
pub mod Stands
pub mod Sums
pub mod Good
