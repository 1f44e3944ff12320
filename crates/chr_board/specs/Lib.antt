pub mod Searching
pub mod Drained
pub mod DeskView
pub mod Errors
pub mod IsDesk
pub mod OfferedView
pub mod Picking
