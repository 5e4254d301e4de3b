pub mod Making
pub mod Records
pub mod Shares
