pub mod Stages
pub mod Standings
pub mod Cores
