-- What a text of a trace is, and how it begins to be wrong.
pub mod Buses
pub mod Stamps
pub mod Texts
