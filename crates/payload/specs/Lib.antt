pub mod Appended
pub mod Zeros
