mod Asked
mod Ends
mod Kept
