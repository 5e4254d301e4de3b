pub mod Boards
pub mod Meaning
pub mod Refusals
