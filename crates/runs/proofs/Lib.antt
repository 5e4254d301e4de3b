pub mod Buffers
pub mod Bursts
pub mod Cutting
pub mod Law
pub mod Noting
pub mod Places
pub mod Steps
