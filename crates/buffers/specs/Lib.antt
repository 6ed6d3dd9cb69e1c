-- The lent buffers of a replay: when they fit, and what is written to the result and to the replies.
pub mod Buffers
pub mod Put
