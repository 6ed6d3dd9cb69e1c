-- Worked captures.
pub mod Worked
