pub mod Cabinets
pub mod Fresh
pub mod Moves
pub mod Replies
pub mod Steps
pub mod Windows
