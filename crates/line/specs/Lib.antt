-- How a line is spelled, and what it is to read one and to write one.
pub mod Words
pub mod Places
pub mod TypedWrong
pub mod ChannelF
pub mod ChannelE
pub mod ChannelL
pub mod Records
pub mod Boards
pub mod Readers
pub mod Output
