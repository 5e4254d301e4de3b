pub mod Making
pub mod Rules
