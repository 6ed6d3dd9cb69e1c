-- Why the check finds the first bad line.
pub mod ReachLaws
pub mod CheckLaws
pub mod JudgeLaws
pub mod Usable
pub mod Determined
