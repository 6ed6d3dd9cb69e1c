-- Laws about the bytes of a list of entries, and about the promise.
pub mod Laying
pub mod Counting
pub mod Ending
