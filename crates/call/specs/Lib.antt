-- What the call answers and leaves.
pub mod Play
pub mod Steps
pub mod Replay
pub mod Run
