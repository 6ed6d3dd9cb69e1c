-- What the judgement says of a readable text: which records were judged, what is left behind them, and that the next place is further on.
use mathlib.Core.Path.{◌≡◌, refl, sym, subst}
use mathlib.Core.List.{List, [], ◌∷◌, ◌++◌}
use Prim.Native.Nat.{ℕ, ◌+◌, ◌≤◌, ◌<◌}
use native.Mathlib.Omega.{arith}
use lib.ListN.{length, drop, length-append}
use Rattle.law.specs.Words.{All}
use Rattle.meaning.specs.Channels.{most_in_all}
use Rattle.record.specs.declared.Record.{Record}
use Rattle.record.specs.declared.Board.{Board}
use Rattle.controls.specs.declared.Controls.{Controls}
use Rattle.line.specs.Records.{spelled, RecordOk}
use Rattle.orders.specs.declared.Held.{Held}
use Rattle.orders.specs.declared.Verdict.{Verdict}
use Rattle.orders.specs.declared.Verdict.TheVariants.{Crowded, Differ, Lost, Passes}
use Rattle.orders.specs.Verdicts.{Judged}
use Rattle.text.specs.Texts.{spelled_all}
use Rattle.text.proofs.Theorems.{not_at_end}
use Rattle.enough.specs.Enough.{HoldsMost, Holds}
use Rattle.stamps.specs.declared.Judgement.{Judgement}
use Rattle.stamps.specs.Gathering.{nothing_gathered, gathered_all, Shares}
use Rattle.stamps.specs.Judging.{JudgesAt}
use Rattle.stamps.specs.Judging.JudgesAt.{nothing, found}
use Rattle.stamps.proofs.Keeping.{keeps_none, keeps_all}
use Rattle.stamps.proofs.Sharing.{record_inside, all_next, shares_inside, Over, shares_begin}

-- the records rs from the place on begin with those of one stamp, p; they are held and judged, and rest is left behind them
pub record Found (text : List ℕ) (b : Board) (c : Controls) (rs : List Record) (j : Judgement) : Type 0 where
  pub first : Record
  pub others : List Record
  pub rest : List Record
  pub whole : rs ≡ (first ∷ others) ++ rest
  pub same : All (λ (r : Record). r.stamp ≡ j.stamp) (first ∷ others)
  pub over : Over j.stamp rest
  pub ok : All RecordOk rest
  pub left : drop j.next text ≡ spelled_all rest
  pub held : Held
  pub holds : Holds b held (first ∷ others)
  pub judged : Judged b held c j.verdict
  pub written : HoldsMost most_in_all j.records.count j.records.records (first ∷ others)
  pub long : length j.records.records ≡ most_in_all

abbrev IsCrowded : Verdict → Type 0
IsCrowded Crowded = Unit {0}
IsCrowded Differ = ⊥
IsCrowded Lost = ⊥
IsCrowded Passes = ⊥

module _ {text : List ℕ} {place : ℕ} {b : Board} {c : Controls} where
  pub found_at : {j : Judgement} → JudgesAt text place b c j → (rs : List Record) → All RecordOk rs → drop place text ≡ spelled_all rs → place < length text → Found text b c rs j
  unfolding All spelled_all
  found_at (nothing n) [] o e l = absurd (not_at_end text place [] e l refl)
  found_at (nothing n) (r ∷ rs) o e l = absurd (n r o.0 (record { rest = spelled_all rs; is = e }))
  found_at (found r p v s j) rs o e l =
      let x = shares_begin text r.stamp place (r ∷ p) rs s o e in
      let k = keeps_all b [] (r ∷ p) (nothing_gathered place) (keeps_none place b) in
      record {
        first = r;
        others = p;
        rest = x.rest;
        whole = x.whole;
        same = x.same;
        over = x.over;
        ok = x.ok;
        left = subst (λ (n : ℕ). drop n text ≡ spelled_all x.rest) (sym (all_next (nothing_gathered place) (r ∷ p))) x.left;
        held = (gathered_all (nothing_gathered place) (r ∷ p)).held;
        holds = k.held;
        judged = j;
        written = k.written;
        long = k.sized.records;
      }

  -- where the stamp passes, the next one is further on
  pub onward : {j : Judgement} → JudgesAt text place b c j → j.verdict ≡ Passes → (place + 7 ≤ j.next) × (j.next ≤ length text)
  unfolding Shares spelled_all
  onward (nothing n) q = absurd (subst IsCrowded q tt)
  onward (found r p v s j) q =
      let a = all_next (nothing_gathered place) (r ∷ p) in
      let i = record_inside text place r s.0 s.1 in
      let h = shares_inside text r.stamp place (r ∷ p) (omega (arith, i.0, i.1)) s in
      (omega (arith, a, i.0, length-append (spelled r) (spelled_all p)), omega (arith, a, h))
