pub mod Burst
pub mod Bursts
pub mod Calls
pub mod Starting
pub mod State
