-- How a field is spelled, which fields a line has, and what it is to read one and to write one.
pub mod Ends
pub mod Reads
pub mod Read
pub mod Fields
pub mod Decimal
pub mod Hex
pub mod Digit
pub mod Readers
pub mod Spelling
pub mod Room
