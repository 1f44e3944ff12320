mod Links
mod Grounds
mod Roots
mod Changed
mod Binds
mod Equations
mod Agenda
mod Eliminations
mod Fresh
mod Values
mod Fits
pub mod Marked
pub mod Instances
mod Guards
mod Renamed
