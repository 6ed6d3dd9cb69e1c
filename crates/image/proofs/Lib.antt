-- What the proofs of `image` share, and the laws that upper floors read images by.
pub mod Each
pub mod Fitting
pub mod Pages
pub mod Reading
pub mod AtPlace
pub mod Keeping
pub mod Shown
