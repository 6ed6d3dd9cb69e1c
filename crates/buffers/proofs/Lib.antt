-- What the proofs of `buffers` share, and the laws that upper floors read the buffers by.
pub mod Clear
pub mod Fit
pub mod Stores
pub mod Result
pub mod Replies
