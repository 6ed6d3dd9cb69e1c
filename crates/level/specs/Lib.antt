-- How a level line is spelled and read, and what is asked of the first line and of two lines in turn.
pub mod Spelled
pub mod Rest
pub mod Readers
