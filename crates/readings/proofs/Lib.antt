pub mod Coded
pub mod Floats
pub mod LittleEndian
pub mod Wire
