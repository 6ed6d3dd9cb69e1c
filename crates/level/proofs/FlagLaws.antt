-- One digit 0 or 1 and the byte that ends its field.
use Prim.Native.Nat.{ℕ, zero, suc, ◌+◌, ◌≤◌, ◌<◌}
use native.Mathlib.Omega.{arith}
use native.Mathlib.Nat.{add-zero}
use mathlib.Core.Bool.{Bool, true, false}
use mathlib.Core.Path.{◌≡◌, refl, sym, ap, ◌∙◌}
use mathlib.Core.List.{List, ◌++◌}
use lib.Dec.{eqb}
use lib.ListN.{length, get_or}
use Rattle.std.specs.Prelude.{Some, None}
use Rattle.field.specs.Reads.{Stands}
use Rattle.field.proofs.Reading.{none, one, by_inverse, stands_get_d, stands_length, stands_of}
use Rattle.level.specs.Spelled.{level_digit}
use Rattle.level.specs.Readers.{spelled_flag, ReadsFlag}

-- the digit of a spelling
abbrev flag_at : List ℕ → Bool
flag_at l = eqb (get_or l 0 0) 49

flag_law : (end : ℕ) (a : Bool) → Unit {0} → (rest : List ℕ) → flag_at (spelled_flag end a ++ rest) ≡ a
unfolding spelled_flag
flag_law end true o rest = refl
flag_law end false o rest = refl

module _ (text : List ℕ) (at end : ℕ) where
  -- it is not there
  pub flag_short : length text < at + 2 → ReadsFlag end text at None
  unfolding spelled_flag
  flag_short h = none (λ a o s. let l = stands_length text (spelled_flag end a) at s (omega arith) in omega arith)

  pub flag_end : (get_or text (at + 1) 0 ≡ end → ⊥) → ReadsFlag end text at None
  unfolding spelled_flag
  flag_end m = none (λ a o s. m (stands_get_d text (spelled_flag end a) at s 1 (omega arith)))

  digit : (a : Bool) → Stands text at (spelled_flag end a) → get_or text at 0 ≡ level_digit a
  unfolding spelled_flag
  digit a s = ap (λ (k : ℕ). get_or text k 0) (sym (add-zero at)) ∙ stands_get_d text (spelled_flag end a) at s 0 (omega arith)

  pub flag_digit : (get_or text at 0 ≡ 48 → ⊥) → (get_or text at 0 ≡ 49 → ⊥) → ReadsFlag end text at None
  flag_digit m n = none nothing
    where
      nothing : (a : Bool) → Unit {0} → Stands text at (spelled_flag end a) → ⊥
      nothing false o s = m (digit false s)
      nothing true o s = n (digit true s)

  -- it is
  pub flag_is : (a : Bool) → at + 2 ≤ length text → get_or text (at + 1) 0 ≡ end → get_or text at 0 ≡ level_digit a → ReadsFlag end text at (Some (a, record { at = at + 2 }))
  unfolding spelled_flag
  flag_is a h e d = one a (at + 2) tt stands refl (by_inverse (spelled_flag end) (λ _. Unit {0}) flag_at (flag_law end) a tt stands)
    where
      bytes : (i : ℕ) → i < length (spelled_flag end a) → get_or text (at + i) 0 ≡ get_or (spelled_flag end a) i 0
      bytes zero p = rw add-zero d
      bytes (suc zero) p = e
      bytes (suc (suc i)) p = absurd (omega arith)

      stands : Stands text at (spelled_flag end a)
      stands = stands_of text (spelled_flag end a) at h bytes
