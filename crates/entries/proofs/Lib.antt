-- Laws of the lines, of the stores that print them, and of what the call of the plan leaves.
pub mod Digits
pub mod Putting
pub mod Walk
pub mod Status
pub mod Meaning
pub mod Bounds
pub mod Outcome
pub mod Printing
pub mod Determined
