-- What a level text is and how it begins to be wrong, what is taken from the logger, and the records of both in one order.
pub mod Taken
pub mod Captures
pub mod Merge
pub mod Most
pub mod OneByOne
