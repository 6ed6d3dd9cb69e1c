-- Believed: What the merge answers and leaves (document 02, request 4/12: 'All is written out as one trace under the logger's board line', 'all lent memory untouched', 'then 10'), for every input.
use Rattle.std.specs.Prelude.{ℕ, ◌≡◌, true, false, List, ◌++◌, eqb, ltb, length, drop}
use Rattle.law.specs.Words.{pick}
use Rattle.record.specs.declared.Answer.TheVariants.{Settled, BadBuffers}
use Rattle.record.specs.declared.LevelsAnswer.TheVariants.{TooShort}
use Rattle.record.specs.Answers.{answer_number, levels_answer_number}
use Rattle.record.specs.Lengths.{result_length}
use Rattle.buffers.specs.Buffers.{result_after}
use Rattle.text.specs.Texts.{spelled_trace}
use Rattle.capture.specs.Merge.{Judgement, refused, merged, Judges}

-- no merged text is longer: an output of so many bytes is never too short
abbrev pub longest_text : ℕ
longest_text = 540553

-- the lent output and result
pub record Outputs : Type 0 where
  pub output : List ℕ
  pub result : List ℕ

abbrev pub outputs_of : List ℕ → List ℕ → Outputs
outputs_of output result = record { output = output; result = result }

-- the answer, and what is in the buffers
pub record Wrote : Type 0 where
  pub answer : ℕ
  pub outputs : Outputs

abbrev pub wrote_as : ℕ → Outputs → Wrote
wrote_as n x = record { answer = n; outputs = x }

-- a refusal writes only the result: the answer, the line, no length, the field of a 3
unfoldable pub unwritten : ℕ → ℕ → ℕ → Outputs → Wrote
unwritten n line field x = wrote_as n (outputs_of x.output (result_after n line 0 field x.result))

-- the text at the front of the output, the rest as it was; the result has the text's length
unfoldable pub written : List ℕ → Outputs → Wrote
written text x =
    wrote_as (answer_number Settled) (outputs_of (text ++ drop (length text) x.output) (result_after (answer_number Settled) 0 (length text) 0 x.result))

-- refusal 10 comes last: the output is too short for the whole text
unfoldable pub merge_left : Judgement → Outputs → Wrote
merge_left (refused n line field) x = unwritten n line field x
merge_left (merged b m) x =
    pick (ltb (length x.output) (length (spelled_trace b m))) (unwritten (levels_answer_number TooShort) 0 0 x) (written (spelled_trace b m) x)

-- The order of refusals: 1 (the result's length), how both texts are judged, 10. Every two texts have a judgement.
pub record Merges (levels trace : List ℕ) (x : Outputs) (e : Wrote) : Type 0 where
  pub unfit : eqb (length x.result) result_length ≡ false → e ≡ unwritten (answer_number BadBuffers) 0 0 x
  pub judged : eqb (length x.result) result_length ≡ true → (j : Judgement) → Judges levels trace j → e ≡ merge_left j x
  pub some : eqb (length x.result) result_length ≡ true → (j : Judgement) × Judges levels trace j
