-- What follows for the replay: the answer of the check is determined, a readable text has few records, and they are stepped through one by one.
use Prim.Native.Nat.{ℕ, ◌+◌, ◌*◌, ◌≤◌, ◌<◌}
use native.Mathlib.Omega.{arith}
use mathlib.Core.Path.{◌≡◌, refl, sym, ap, ◌∙◌}
use mathlib.Core.Logic.{⊎_elim}
use mathlib.Core.List.{List, [], ◌∷◌}
use lib.ListN.{length, drop, length-append, length-drop}
use lib.Seq.{drop-append_seam, drop-drop}
use Rattle.law.specs.Words.{All}
use Rattle.record.specs.declared.Record.{Record}
use Rattle.record.specs.declared.Board.{Board}
use Rattle.record.specs.Lengths.{replies_length}
use Rattle.field.specs.Read.{Read, got}
use Rattle.line.specs.Records.{spelled, RecordOk, ReadsRecord}
use Rattle.line.specs.Boards.{spelled_board}
use Rattle.line.proofs.OutputLaws.{spelled_length_min, board_length}
use Rattle.text.specs.Texts.{text_limit, spelled_all, spelled_trace, Readable, Checks, Checked}
use Rattle.text.proofs.OneReading.{some}

-- any two answers that the promise of `check_text` admits are equal
pub check_determined : (text : List ℕ) (r r' : Checked) → Checks text r → Checks text r' → r ≡ r'
check_determined text r r' c d =
    ⊎_elim (λ z. c.readable z.0 z.1 z.2 ∙ sym (d.readable z.0 z.1 z.2))
    (λ z. c.refused z.0 z.1 z.2 z.3 ∙ sym (d.refused z.0 z.1 z.2 z.3))
    c.only

-- ---- how many records there can be
pub seven_each : (rs : List Record) → All RecordOk rs → 7 * length rs ≤ length (spelled_all rs)
unfolding spelled_all All
seven_each [] o = omega arith
seven_each (r ∷ rs) o = omega (arith, spelled_length_min r o.0.0, seven_each rs o.1, length-append (spelled r) (spelled_all rs))

pub few_records : {text : List ℕ} {b : Board} {rs : List Record} → Readable text b rs → length text ≤ text_limit → length rs ≤ 9360
unfolding spelled_trace
few_records {text} {b} {rs} q h = omega (arith, seven_each rs q.fits, ap length q.is, length-append (spelled_board b) (spelled_all rs), board_length b)

-- four reply bytes for each fit into the replies
pub replies_fit : {text : List ℕ} {b : Board} {rs : List Record} → Readable text b rs → length text ≤ text_limit → 4 * length rs ≤ replies_length
replies_fit q h = omega (arith, few_records q h)

-- ---- stepping
-- from the place that the check gave on, a readable text is its records
pub first_place_lem : {text : List ℕ} {b : Board} {rs : List Record} → Readable text b rs → drop (length (spelled_board b)) text ≡ spelled_all rs
unfolding spelled_trace
first_place_lem {text} {b} {rs} q = ap (λ (l : List ℕ). drop (length (spelled_board b)) l) q.is ∙ drop-append_seam (spelled_board b) (spelled_all rs)

module _ (text : List ℕ) (at : ℕ) where
  -- the record at the place is read, and the place after it has the others
  pub step : (r : Record) (rs : List Record) (a : Read Record) → RecordOk r → drop at text ≡ spelled_all (r ∷ rs) → ReadsRecord text at a
      → (a ≡ got r (at + length (spelled r))) × (drop (at + length (spelled r)) text ≡ spelled_all rs)
  unfolding spelled_all
  step r rs a o e d =
      (d.found r o (record { rest = spelled_all rs; is = e }), sym (drop-drop (length (spelled r)) at text) ∙ ap (λ (l : List ℕ). drop (length (spelled r)) l) e ∙ drop-append_seam (spelled r) (spelled_all rs))

  -- while records are left the place is within the text, and the next one's too
  pub within : (r : Record) (rs : List Record) → RecordOk r → drop at text ≡ spelled_all (r ∷ rs) → at + length (spelled r) ≤ length text
  unfolding spelled_all
  within r rs o e = omega (arith, some r o, ap length e, length-append (spelled r) (spelled_all rs), length-drop at text)

  -- at the end no record is left, and only there
  pub at_end : (rs : List Record) → drop at text ≡ spelled_all rs → length text ≤ at → All RecordOk rs → rs ≡ []
  unfolding All
  at_end [] e h o = refl
  at_end (r ∷ rs) e h o = absurd (omega (arith, some r o.0, within r rs o.0 e))

  pub not_at_end : (rs : List Record) → drop at text ≡ spelled_all rs → at < length text → rs ≡ [] → ⊥
  unfolding spelled_all
  not_at_end [] e h n = omega (arith, ap length e, length-drop at text)
  not_at_end (r ∷ rs) e h n = absurd (omega (arith, ap length n))
