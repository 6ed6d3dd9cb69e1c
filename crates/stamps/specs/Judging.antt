-- What is found at the stamp of the record at a place of a text.
use Rattle.std.specs.Prelude.{◌≡◌, List, ◌∷◌, ℕ}
use Rattle.record.specs.declared.Record.{Record}
use Rattle.record.specs.declared.Board.{Board}
use Rattle.field.specs.Reads.{Stands}
use Rattle.line.specs.Records.{spelled, RecordOk}
use Rattle.controls.specs.declared.Controls.{Controls}
use Rattle.orders.specs.declared.Verdict.{Verdict}
use Rattle.orders.specs.declared.Verdict.TheVariants.{Crowded}
use Rattle.orders.specs.Verdicts.{Judged}
use Rattle.stamps.specs.declared.Gathered.{Gathered}
use Rattle.stamps.specs.declared.Judgement.{Judgement}
use Rattle.stamps.specs.Gathering.{nothing_gathered, gathered_all, Shares, Gathers}

-- a verdict on the stamp t with what was gathered of it
abbrev pub judgement : Verdict → ℕ → Gathered → Judgement
judgement v t g = record { verdict = v; records = g.records; next = g.next; stamp = t }

-- The records that share the stamp of the one at the place are gathered and judged. Where no record stands nothing is gathered, and the verdict is
-- one that does not pass, since there the replay cannot go on: no place comes next. In a readable text a record stands at every place that is asked of.
pub data JudgesAt (text : List ℕ) (place : ℕ) (b : Board) (c : Controls) : Judgement → Type 0 where
  nothing : ((r : Record) → RecordOk r → Stands text place (spelled r) → ⊥) → JudgesAt text place b c (judgement Crowded 0 (nothing_gathered place))
  found : (r : Record) (p : List Record) (v : Verdict) → Shares text r.stamp place (r ∷ p) → Judged b (gathered_all (nothing_gathered place) (r ∷ p)).held c v →
      JudgesAt text place b c (judgement v r.stamp (gathered_all (nothing_gathered place) (r ∷ p)))

-- the records that share the stamp t from the place on are gathered and judged
pub record JudgesAll (text : List ℕ) (place t : ℕ) (b : Board) (c : Controls) (j : Judgement) : Type 0 where
  pub gathered : Gathered
  pub gathers : Gathers text t (nothing_gathered place) gathered
  pub verdict : Verdict
  pub judged : Judged b gathered.held c verdict
  pub is : j ≡ judgement verdict t gathered
