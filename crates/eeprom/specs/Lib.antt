-- The rules of the EEPROM's control, and what is said of them.
pub mod Chip
pub mod Write
pub mod Frame
pub mod Step
pub mod Side
pub mod Good
pub mod Told
