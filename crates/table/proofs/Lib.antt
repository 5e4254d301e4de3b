pub mod Looks
pub mod Pairs
pub mod Puts
