-- What the levels of a capture say (document 02, request 4/12).
pub mod Bits
pub mod FlashLevels
pub mod WireLevels
pub mod Decoded
