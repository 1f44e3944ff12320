-- The lemmas.
pub mod Cuts
pub mod Digits
pub mod Faults
pub mod Pieces
pub mod ReadLines
pub mod Runs
