-- Why: the judgement that both calls share, the merged trace part by part, the claims on the merge, those on the second engine, and that every pair has an outcome.
pub mod Judged
pub mod Exactly
pub mod Claims
pub mod Engine
pub mod Outcomes
