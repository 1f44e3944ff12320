pub mod State
pub mod ScribeView
pub mod Texts
pub mod EndingView
pub mod Lined
pub mod About
pub mod LinesLeft
