-- The kept bytes of a chip, what a cycle makes of them, and the page view.
pub mod Image
pub mod Images
pub mod Cycles
pub mod Changing
pub mod View
