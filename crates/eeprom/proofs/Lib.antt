-- The theorems about the rules, and what the proofs of the code share.
pub mod ByParts
pub mod Rolling
pub mod Bounds
pub mod Canonical
pub mod Written
pub mod Worked
pub mod Laws
pub mod Compared
