pub mod Refusals
pub mod SessionView
