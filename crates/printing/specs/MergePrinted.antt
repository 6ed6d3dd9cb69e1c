-- Believed: What the program `merge` prints of a level text and the logger's trace (document 02, request 4/12), by how both are judged.
use Rattle.std.specs.Prelude.{ℕ, ◌≤◌, ◌<◌, ◌≡◌, Bool, true, false, Result, Ok, Err, is_ok, List, length}
use Rattle.record.specs.Lengths.{result_length}
use Rattle.text.specs.Texts.{spelled_trace}
use Rattle.capture.specs.Merge.{Judgement, refused, merged, Judges}
use Rattle.merged.specs.Merging.{longest_text, Outputs, Wrote, Merges}
use Rattle.listing.specs.Bytes.{answer_in, place_in, count_in, field_in}
use Rattle.listing.specs.Lines.{refused_line}
use Rattle.printing.specs.declared.merge.Unmerged.{Unmerged}
use Rattle.printing.specs.Printed.{Written}

-- one trace of both, or as in a listing 'alone `refused`, number, line' and the field
abbrev pub printed_for : Judgement → List ℕ
printed_for (refused n line field) = refused_line n line field
printed_for (merged b m) = spelled_trace b m

abbrev pub is_merged : Judgement → Bool
is_merged (refused n line field) = false
is_merged (merged b m) = true

-- what is given back: how many bytes there are of the merged trace, or of the line of the refusal
abbrev pub ToPrint : Type 0
ToPrint = Result ℕ Unmerged

abbrev pub length_of : ToPrint → ℕ
length_of (Ok n) = n
length_of (Err e) = e.0

-- room for every merged text, so that refusal 10 never comes
abbrev pub merge_room : ℕ
merge_room = longest_text

-- The bytes and whether the pair is accepted, for how both texts are judged, which is one (capture/proofs/OneJudgement.antt). An output without that room stays as it was.
pub record PrintsMerge (levels trace old new : List ℕ) (r : ToPrint) : Type 0 where
  pub written : merge_room ≤ length old → (j : Judgement) × Judges levels trace j × (is_ok r ≡ is_merged j) × Written (printed_for j) old new (length_of r)
  pub short : length old < merge_room → (is_ok r ≡ false) × (length_of r ≡ 0) × (new ≡ old)

-- any two outcomes that the promise of `print_merge` admits are equal
abbrev pub OneMergeOutcome : Type 0
OneMergeOutcome = (levels trace old new new' : List ℕ) (r r' : ToPrint) → PrintsMerge levels trace old new r → PrintsMerge levels trace old new' r' → (r ≡ r') × (new ≡ new')

-- What an outcome of the call on an output x and a result tells is printed: the bytes that it wrote where it answers 0, else the line of its answer, line and field.
pub record MergeTold (x : List ℕ) (e : Wrote) (old new : List ℕ) (r : ToPrint) : Type 0 where
  pub accepted : e.answer ≡ 0 → (is_ok r ≡ true) × (w : List ℕ) × Written w x e.outputs.output (count_in e.outputs.result) × Written w old new (length_of r)
  pub refused : (e.answer ≡ 0 → ⊥) → (is_ok r ≡ false) × Written (refused_line (answer_in e.outputs.result) (place_in e.outputs.result) (field_in e.outputs.result)) old new (length_of r)

-- any outcome that the promise of the call admits on a result of its length and an output that has room for any merged text
abbrev pub MergeJoined : Type 0
MergeJoined = (levels trace : List ℕ) (x : Outputs) (e : Wrote) → Merges levels trace x e → length x.result ≡ result_length → merge_room ≤ length x.output →
    (old new : List ℕ) (r : ToPrint) → PrintsMerge levels trace old new r → merge_room ≤ length old → MergeTold x.output e old new r
