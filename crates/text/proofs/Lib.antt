-- Why a text has one reading, where the check stands after each line, and how the records are stepped through.
pub mod Goods
pub mod OneReading
pub mod Standing
pub mod Theorems
pub mod SomeReading
pub mod Fields
