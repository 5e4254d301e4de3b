pub mod Bytes
pub mod Codes
pub mod Outcomes
pub mod Values
