pub mod Replies
pub mod Statistics
pub mod Telegrams
