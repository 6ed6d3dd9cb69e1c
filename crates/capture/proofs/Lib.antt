-- A level text has one reading; the merged trace is readable; any two texts have a judgement, and one only.
pub mod OneCapture
pub mod OneByOne
pub mod OneMore
pub mod Apart
pub mod Decoding
pub mod Parts
pub mod Reading
pub mod OneJudgement
pub mod Some
pub mod Few
pub mod Worked
