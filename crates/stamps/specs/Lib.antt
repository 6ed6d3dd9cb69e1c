-- One stamp of a text.
pub mod Gathering
pub mod Judging
pub mod Lone
