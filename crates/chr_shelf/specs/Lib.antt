pub mod Answers
pub mod Seat
