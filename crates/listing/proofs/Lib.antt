-- What the proofs of `listing` share, and its theorems.
pub mod Stores
pub mod Putting
pub mod Lengths
pub mod Tells
pub mod Which
pub mod Walk
pub mod Whole
pub mod PagesWalk
pub mod Theorems
