-- Why the text that is written is the merged one, and how long it can be.
pub mod LengthLaws
pub mod LineLaws
pub mod LoopLaws
pub mod CountLaws
pub mod CallLaws
pub mod Room
