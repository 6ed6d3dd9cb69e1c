-- What is printed of a replay (document 01, 'One listing in full'; document 02, request 1/12).
pub mod Words
pub mod Bytes
pub mod Lines
pub mod Listing
pub mod Pages
pub mod Writing
