-- What a plan must be, what a call of it answers and leaves, and the plan.
pub mod Below
pub mod Entries
pub mod Fewest
pub mod Call
pub mod Plan
