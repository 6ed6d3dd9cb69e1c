use Rattle.std.proofs.Common.{ℕ, ap, ◌∙◌, List, ne_eqb}
use lib.Seq.{sets}
use Rattle.record.specs.Word.{word}
use Rattle.buffers.specs.Buffers.{result_after}
use Rattle.buffers.proofs.Result.{four_words}
use Rattle.buffers.proofs.put_result.Goals as goal

pub returns-then-res-eq-RESULT : goal.returns-then-res-eq-RESULT
returns-then-res-eq-RESULT c =
    let a = c.args in
    c.put_word-then-res-eq-RESULT-3.ensures
    ∙ ap (λ (l : List ℕ). sets l 12 (word a.field)) c.put_word-then-res-eq-RESULT-2.ensures
    ∙ ap (λ (l : List ℕ). sets (sets l 8 (word a.count)) 12 (word a.field)) c.put_word-then-res-eq-RESULT.ensures
    ∙ ap (λ (l : List ℕ). sets (sets (sets l 4 (word a.number)) 8 (word a.count)) 12 (word a.field)) c.put_word.ensures
    ∙ four_words a.answer a.number a.count a.field a.res.now c.if-res-eq-RESULT.true

pub returns-else-res-eq-RESULT : goal.returns-else-res-eq-RESULT
unfolding result_after
returns-else-res-eq-RESULT c = simp (ne_eqb _ _ c.if-res-eq-RESULT.false)
