pub mod Reading
pub mod Relay
pub mod Showing
pub mod Telegram
