-- What a history of the chips is, and what doubt means by it.
pub mod History
pub mod Exact
