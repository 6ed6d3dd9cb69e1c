-- Laws of a level line's parts, and what follows of them.
pub mod Parts
pub mod FlagLaws
pub mod StampLaws
pub mod LevelLaws
pub mod Theorems
pub mod Here
