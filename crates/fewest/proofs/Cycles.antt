-- How many entries of a list are cycles.
use mathlib.Core.Path.{◌≡◌}
use mathlib.Core.Bool.{true}
use mathlib.Core.List.{List, [], ◌∷◌}
use Prim.Native.Nat.{ℕ, suc, ◌+◌, ◌≤◌}
use native.Mathlib.Omega.{arith}
use lib.ListN.{length}
use Rattle.law.specs.Words.{All}
use Rattle.law.specs.Choice.{split}
use Rattle.fewest.specs.Entries.{Entry, starts, cycles}

pub cycles_le : (s : ℕ) (os : List Entry) → cycles s os ≤ length os
unfolding cycles
cycles_le s [] = omega arith
cycles_le s (o ∷ os) = split (starts s o) (λ t. rw t (omega (arith, cycles_le s os))) (λ t. rw t (omega (arith, cycles_le s os)))

pub each_starts : (s : ℕ) (os : List Entry) → cycles s os ≡ length os → All (λ o. starts s o ≡ true) os
unfolding cycles All
each_starts s [] e = tt
each_starts s (o ∷ os) e =
    split (starts s o)
    (λ t. (t, each_starts s os (less (cycles s os) (length os) (rw t at e))))
    (λ t. absurd (more (cycles s os) (length os) (cycles_le s os) (rw t at e)))
  where
    less : (c n : ℕ) → 1 + c ≡ suc n → c ≡ n
    less c n h = omega arith

    more : (c n : ℕ) → c ≤ n → 0 + c ≡ suc n → ⊥
    more c n l h = omega arith
