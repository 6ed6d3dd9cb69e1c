-- Every order of one stamp's records.
pub mod Stamp
pub mod LineStates
pub mod Verdicts
pub mod Lost
