pub mod Sides
pub mod Effects
pub mod AtStamp
pub mod OneChip
pub mod Whole
pub mod Enough
pub mod Pairs
pub mod NoOwn
