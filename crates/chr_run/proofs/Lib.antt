pub mod Parts
pub mod Ends
pub mod Sent
pub mod Accepted
pub mod ReplayTexts
pub mod Headlines
pub mod Sends
