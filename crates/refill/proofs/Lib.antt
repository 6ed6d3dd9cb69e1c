-- That the records of a plan do what its entries say, and that the entries are read in one way.
pub mod Halves
pub mod Playing
pub mod Images
pub mod Counting
pub mod Whole
pub mod Replayed
pub mod Any
pub mod OneReading
pub mod Claims
pub mod Exact
pub mod Traced
