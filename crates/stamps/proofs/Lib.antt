pub mod Keeping
pub mod Sharing
pub mod Turns
pub mod Judges
pub mod Found
pub mod Lone
