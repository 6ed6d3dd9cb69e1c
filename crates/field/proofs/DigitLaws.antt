-- The digit in a range.
use Prim.Native.Nat.{ℕ, zero, suc, ◌+◌, ◌-◌, ◌≤◌, ◌<◌}
use native.Mathlib.Omega.{arith}
use native.Mathlib.Nat.{add-zero, add-sub_cancel_left}
use mathlib.Core.Path.{◌≡◌, refl, sym, ap, ◌∙◌}
use mathlib.Core.Bool.{false}
use mathlib.Core.List.{List}
use lib.Dec.{leb}
use lib.ListN.{length, get_or}
use borrow.Author.Tests.{le-leb, leb-true}
use Rattle.law.specs.Choice.{both}
use Rattle.law.specs.Words.{pick}
use Rattle.field.specs.Reads.{Stands}
use Rattle.field.specs.Digit.{digit_field, DigitOk, is_digit}
use Rattle.field.proofs.Reading.{Got, stands_get_d, stands_length, stands_of}
use Rattle.field.proofs.Answers.{No}
use Rattle.field.proofs.FieldLaws.{Plain, Tests, spells_tests}

module _ (text : List ℕ) (at low high : ℕ) where
  byte_is : (d : ℕ) → Stands text at (digit_field d) → get_or text at 0 ≡ 48 + d
  unfolding digit_field
  byte_is d s = ap (λ (k : ℕ). get_or text k 0) (sym (add-zero at)) ∙ stands_get_d text (digit_field d) at s 0 (omega arith)

  pub digit_short : length text ≤ at → No digit_field (DigitOk low high) text at
  unfolding digit_field
  digit_short h d o s = let l = stands_length text (digit_field d) at s (omega arith) in omega arith

  -- the byte is no digit of the range
  pub digit_out : ((d : ℕ) → DigitOk low high d → get_or text at 0 ≡ 48 + d → ⊥) → No digit_field (DigitOk low high) text at
  digit_out n d o s = n d o (byte_is d s)

  pub digit_good : (d : ℕ) → at < length text → get_or text at 0 ≡ 48 + d → DigitOk low high d → Got digit_field (DigitOk low high) text at d (at + 1)
  unfolding digit_field
  digit_good d h e o = record { ok = o; stands = stands_of text (digit_field d) at (omega arith) bytes; next = refl; only = λ y o' s. let b = byte_is y s in omega arith }
    where
      bytes : (i : ℕ) → i < 1 → get_or text (at + i) 0 ≡ get_or (digit_field d) i 0
      bytes zero p = rw add-zero e
      bytes (suc i) p = absurd (omega arith)

pub plain_digit : (d : ℕ) → Plain (digit_field d)
unfolding digit_field Plain
plain_digit d = (λ e. omega arith, λ e. omega arith, tt)

pub tests_digit : (low high : ℕ) → Tests (is_digit low high) digit_field (DigitOk low high)
unfolding is_digit digit_field
tests_digit low high = spells_tests (λ d. pick (leb d 9) (pick (leb low d) (leb d high) false) false) (λ w. get_or w 0 0 - 48) digit_field (DigitOk low high)
    (λ x o. simp (le-leb x 9 o.0, le-leb low x o.1, le-leb x high o.2))
    (λ x e. let z = both (leb x 9) (pick (leb low x) (leb x high) false) e in let y = both (leb low x) (leb x high) z.1 in (leb-true x 9 z.0, leb-true low x y.0, leb-true x high y.1))
    (λ x o. add-sub_cancel_left 48 x)
    (λ x o. plain_digit x)
