pub mod Counts
pub mod Covering
pub mod Marks
pub mod Words
