pub mod ReplyOf
pub mod Compared
