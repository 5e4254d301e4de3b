pub mod Codes
pub mod Model
pub mod Replies
