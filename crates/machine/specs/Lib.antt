-- The machine: both controls, both images and the pages' times, and what one record does to them.
pub mod Effects
pub mod Lent
pub mod Machine
pub mod Replies
pub mod Touching
pub mod Turn
