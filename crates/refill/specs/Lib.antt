-- The records of a list of entries, and what the caller of the plan gets.
pub mod Records
pub mod Refill
pub mod Played
pub mod Traced
