-- The bytes of the kinds, how the plan's outcome is said, and the plan's words over the types of the code.
pub mod Kinds
pub mod Made
pub mod Ways
