-- Why the records are played in their order, and how the call ends.
pub mod PlayLaws
pub mod CallLaws
