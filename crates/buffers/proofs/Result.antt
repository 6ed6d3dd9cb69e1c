-- A run of stores over the whole result. Assumes nothing.
use mathlib.Core.Path.{◌≡◌, ap, ◌∙◌}
use mathlib.Core.List.{List, ◌++◌, append-nil}
use Prim.Native.Nat.{ℕ, ◌+◌}
use native.Mathlib.Omega.{arith}
use borrow.Author.Tests.{eq-eqb}
use lib.ListN.{length, drop_of_length-le}
use lib.Seq.{sets, sets-eq}
use Rattle.record.specs.Lengths.{result_length, plan_result_length}
use Rattle.record.specs.Word.{word}
use Rattle.buffers.specs.Buffers.{result_bytes, result_after, plan_result_after}

all_set : (vs l : List ℕ) → length l ≡ length vs → sets l 0 vs ≡ vs
all_set vs l e =
    sets-eq vs l 0 (omega arith)
    ∙ ap (λ (r : List ℕ). vs ++ r) (drop_of_length-le l {i = 0 + length vs} (omega arith)) ∙ append-nil vs

-- a result of the right length is written whole
pub result_written : (answer number count field : ℕ) (old : List ℕ) → length old ≡ result_length → result_after answer number count field old ≡ result_bytes answer number count field
unfolding result_after
result_written answer number count field old e = simp (eq-eqb _ _ e)

-- four numbers, one after the other
pub four_words : (answer number count field : ℕ) (old : List ℕ) → length old ≡ result_length
    → sets (sets (sets (sets old 0 (word answer)) 4 (word number)) 8 (word count)) 12 (word field) ≡ result_after answer number count field old
unfolding result_after result_bytes
four_words answer number count field old e = all_set (result_bytes answer number count field) old e ∙ simp (eq-eqb _ _ e)

-- two, of a plan's result
pub two_words : (answer number : ℕ) (old : List ℕ) → length old ≡ plan_result_length → sets (sets old 0 (word answer)) 4 (word number) ≡ plan_result_after answer number old
unfolding plan_result_after
two_words answer number old e = all_set (word answer ++ word number) old e ∙ simp (eq-eqb _ _ e)
