pub mod Addressing
