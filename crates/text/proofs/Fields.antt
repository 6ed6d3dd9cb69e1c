-- A refusal's field: it is one digit; with answer 3 it counts from 1, with another answer it is 0.
use Prim.Native.Nat.{ℕ, ◌≤◌}
use native.Mathlib.Omega.{arith}
use mathlib.Core.Path.{◌≡◌, refl}
use mathlib.Core.Logic.{◌⊎◌, inl, inr}
use mathlib.Core.List.{List}
use lib.ListN.{drop}
use Rattle.record.specs.declared.Record.{Record}
use Rattle.record.specs.declared.Answer.{Answer}
use Rattle.record.specs.declared.Answer.TheVariants.{BadLine, BackInTime, Impossible}
use Rattle.line.proofs.Counted.{record_field, board_field}
use Rattle.text.specs.Texts.{Wrong, Refused}
use Rattle.text.specs.Texts.Wrong.{no_record, falls, cannot}
use Rattle.text.specs.Texts.Refused.{no_board, bad_line}

wrong_small : {text : List ℕ} {at : ℕ} {rs : List Record} {a : Answer} {k : ℕ} → Wrong text at rs a k → k ≤ 6
wrong_small {text} {at} (no_record h n) = (record_field (drop at text)).1
wrong_small (falls r o s h) = omega arith
wrong_small (cannot r o s h i) = omega arith

pub field_small : {text : List ℕ} {a : Answer} {n k : ℕ} → Refused text a n k → k ≤ 6
field_small {text} (no_board none) = omega (arith, board_field text)
field_small (bad_line b rs f w) = wrong_small w

-- the field with the answer a
abbrev pub FieldOf : Answer → ℕ → Type 0
FieldOf a k = ((a ≡ BadLine) × (1 ≤ k)) ⊎ ((a ≡ BadLine → ⊥) × (k ≡ 0))

four_apart : BackInTime ≡ BadLine → ⊥
four_apart e = cc

five_apart : Impossible ≡ BadLine → ⊥
five_apart e = cc

wrong_field : {text : List ℕ} {at : ℕ} {rs : List Record} {a : Answer} {k : ℕ} → Wrong text at rs a k → FieldOf a k
wrong_field {text} {at} (no_record h n) = inl (refl, (record_field (drop at text)).0)
wrong_field (falls r o s h) = inr (four_apart, refl)
wrong_field (cannot r o s h i) = inr (five_apart, refl)

pub field_of : {text : List ℕ} {a : Answer} {n k : ℕ} → Refused text a n k → FieldOf a k
field_of {text} (no_board none) = inl (refl, (board_field text).0)
field_of (bad_line b rs f w) = wrong_field w
