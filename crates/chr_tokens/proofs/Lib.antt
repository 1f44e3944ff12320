-- The lemmas.
pub mod Capped
pub mod Comments
pub mod Cuts
mod Firsts
mod Lasts
