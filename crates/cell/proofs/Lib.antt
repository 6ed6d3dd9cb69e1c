-- The laws of the rules on one kept byte.
pub mod Disjoint
pub mod Neutral
