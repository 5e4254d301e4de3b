pub mod Calls
pub mod Feeding
pub mod Neighbours
pub mod Replaying
pub mod Runs
