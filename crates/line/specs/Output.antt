-- Believed: Writing a line to the front of an output (document 01, refusals 9 and 10).
use Rattle.std.specs.Prelude.{ℕ, ◌≡◌, List, ◌++◌, ltb, length, drop, Result, Ok, Err}
use Rattle.law.specs.Words.{pick}
use Rattle.line.specs.declared.output.WriteError.{WriteError}

-- the paper's number, 0 where nothing is refused, and the length
abbrev pub on_paper : Result ℕ WriteError → ℕ × ℕ
on_paper (Err WriteError.OutOfRange) = (9, 0)
on_paper (Err WriteError.TooShort) = (10, 0)
on_paper (Ok n) = (0, n)

-- The bytes w are written: where the output is too short for them it stays as it was, else they stand at its front and the rest stays.
pub record Wrote (w old new : List ℕ) (r : Result ℕ WriteError) : Type 0 where
  pub answer : on_paper r ≡ pick (ltb (length old) (length w)) (10, 0) (0, length w)
  pub content : new ≡ pick (ltb (length old) (length w)) old (w ++ drop (length w) old)
