-- Every text is readable or has a first bad line.
use Prim.Native.Nat.{ℕ, zero, suc, ◌+◌, ◌≤◌}
use native.Mathlib.Omega.{arith}
use native.Mathlib.Nat.{zero-add}
use mathlib.Core.Path.{◌≡◌, refl, sym}
use mathlib.Core.Logic.{◌⊎◌, inl, inr, ⊎_elim}
use mathlib.Core.List.{List}
use lib.ListN.{length, drop}
use Rattle.std.specs.Prelude.{Option, Some, None}
use Rattle.law.specs.Choice.{lt_or_le}
use Rattle.record.specs.declared.Board.{Board}
use Rattle.record.specs.declared.Record.{Record}
use Rattle.record.specs.declared.Answer.{Answer}
use Rattle.field.proofs.Reading.{Got}
use Rattle.line.specs.Boards.{spelled_board, BoardOk}
use Rattle.line.specs.Records.{spelled, RecordOk}
use Rattle.line.specs.Places.{first_bad_field, first_bad_of_board}
use Rattle.line.proofs.Theorems.{record_same, board_same}
use Rattle.text.specs.declared.buses.Buses.{Buses}
use Rattle.text.specs.Buses.{all_closed, moved}
use Rattle.text.specs.Texts.{Readable, Refused, Checks, Checked, accepted, refusal}
use Rattle.text.proofs.Standing.{So, so_start, so_bad, so_back, so_impossible, so_more, so_end, got_record_place, no_board_lem}
use Rattle.line.proofs.Here.{RecordHere, record_here, board_here}

-- a record moves the buses, or is impossible
told_moves : (m : Option Buses) → ((b : Buses) × (m ≡ Some b)) ⊎ (m ≡ None)
told_moves (Some b) = inl (b, refl)
told_moves None = inr refl

module _ (text : List ℕ) {b : Board} {p : ℕ} (board : Got spelled_board BoardOk text 0 b p) where
  -- as many steps as the text has bytes left are enough
  within : (n at number last : ℕ) (buses : Buses) → So text b at number last buses → length text ≤ at + n → (r : Checked) × Checks text r
  unfolding RecordHere
  within zero at number last buses s h = (accepted b p, so_end s board (omega arith))
  within (suc n) at number last buses s h =
      ⊎_elim
      (λ l.
      ⊎_elim
      (λ z.
      let g : Got spelled RecordOk text at z.0 (at + length (spelled z.0)) = record { ok = z.1; stands = z.2; next = refl; only = λ y o t. record_same text at z.0 y z.1 o z.2 t } in
      ⊎_elim (λ k. (refusal Answer.BackInTime number 0, so_back s g k))
      (λ k.
      ⊎_elim (λ e. within n (at + length (spelled z.0)) (number + 1) z.0.stamp e.0 (so_more s g k e.1) (omega (arith, got_record_place g)))
      (λ e. (refusal Answer.Impossible number 0, so_impossible s g k e)) (told_moves (moved buses z.0.event)))
      (lt_or_le z.0.stamp last))
      (λ m. (refusal Answer.BadLine number (first_bad_field (drop at text)), so_bad s l (λ r o t. m (r, o, t)) refl)) (record_here text at))
      (λ l. (accepted b p, so_end s board l)) (lt_or_le at (length text))

some_check : (text : List ℕ) → (r : Checked) × Checks text r
some_check text =
    ⊎_elim
    (λ z.
    let g : Got spelled_board BoardOk text 0 z.0 (length (spelled_board z.0)) = record { ok = z.1; stands = z.2; next = sym (zero-add (length (spelled_board z.0))); only = λ y o t. board_same text 0 z.0 y z.1 o z.2 t } in
    within text g (length text) (length (spelled_board z.0)) 2 0 all_closed (so_start g refl) (omega arith))
    (λ m. (refusal Answer.BadLine 1 (first_bad_of_board text), no_board_lem (λ b o s. m (b, o, s)) refl)) (board_here text)

pub some_reading : (text : List ℕ) → ((b : Board) × (rs : List Record) × Readable text b rs) ⊎ ((a : Answer) × (n : ℕ) × (f : ℕ) × Refused text a n f)
some_reading text = (some_check text).1.only
