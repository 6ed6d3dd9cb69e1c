-- What demand 3 says, over any machine that plays records.
pub mod Meaning
pub mod Channels
pub mod Listing
