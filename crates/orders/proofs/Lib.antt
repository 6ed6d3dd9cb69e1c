pub mod Stamp
pub mod Passing
pub mod Compared
pub mod LineStates
pub mod Lost
pub mod Verdicts
pub mod OneVerdict
