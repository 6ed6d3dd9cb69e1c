-- The loop that writes entries: before it, a turn of it, and after it. Assumes nothing.
use mathlib.Core.Path.{◌≡◌, sym, ◌∙◌}
use mathlib.Core.List.{List}
use Prim.Native.Nat.{ℕ, ◌+◌, ◌*◌, ◌/◌, ◌%◌, ◌≤◌, ◌<◌}
use native.Mathlib.Omega.{arith}
use borrow.Author.Tests.{lt-leb, le-leb, lt-ltb, le-ltb}
use lib.ListN.{length, set}
use Rattle.law.specs.Places.{done, more, all}
use Rattle.law.specs.Stretch.{skip, stop}
use Rattle.law.specs.Choice.{split}
use lib.Dec.{leb}
use Rattle.times.specs.Times.{written, entry_byte}
use Rattle.times.specs.Put.{entry_from, entries_with}

module _ (first many stamp : ℕ) where
  -- no byte before the first entry changes
  pub begun : (xs : List ℕ) → xs ≡ done (entry_from first many stamp) (5 * first) xs
  begun xs = sym (skip (entry_from first many stamp) (5 * first) xs (λ k x h. simp (lt-leb first (k / 5) (omega arith))))

  pub turned : (xs ys : List ℕ) (k y : ℕ) → 5 * first ≤ k → k < 5 * (first + many) → k < length xs → ys ≡ done (entry_from first many stamp) k xs → y ≡ entry_byte (written stamp) (k % 5) →
      set ys k y ≡ done (entry_from first many stamp) (k + 1) xs
  turned xs ys k y h l n p e =
      more (entry_from first many stamp) k y xs ys n p (e ∙ sym (simp (le-leb first (k / 5) (omega arith), lt-ltb (k / 5) (first + many) (omega arith))))

  -- nor one behind the last
  behind : (k x : ℕ) → 5 * (first + many) ≤ k → entry_from first many stamp k x ≡ x
  behind k x h = split (leb first (k / 5)) (λ t. simp (t, le-ltb (k / 5) (first + many) (omega arith))) (λ t. simp t)

  pub ended : (xs : List ℕ) (k : ℕ) → 5 * (first + many) ≤ k → done (entry_from first many stamp) k xs ≡ entries_with first many stamp xs
  unfolding entries_with
  ended xs k h = stop (entry_from first many stamp) k xs (λ j x l. behind j x (omega arith))

  -- nor one that is not there
  pub short : (xs : List ℕ) (k : ℕ) → length xs ≤ k → done (entry_from first many stamp) k xs ≡ entries_with first many stamp xs
  unfolding entries_with
  short xs k h = all (entry_from first many stamp) k xs h
