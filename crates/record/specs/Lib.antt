-- The numbers and bytes that document 01 gives to each case.
pub mod Answers
pub mod Lengths
pub mod Replies
pub mod ReplyOf
pub mod LineRules
pub mod Status
pub mod Told
pub mod Records
pub mod Word
