pub mod Layout
pub mod View
pub mod Writing
