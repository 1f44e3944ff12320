pub mod Words
pub mod App
pub mod Answer
