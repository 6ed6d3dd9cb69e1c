-- What the proofs of `files` share.
pub mod Cases
