use Rattle.std.proofs.Common.{ℕ, ap, ◌∙◌, List, ne_eqb}
use lib.Seq.{sets}
use Rattle.record.specs.Word.{word}
use Rattle.buffers.specs.Buffers.{plan_result_after}
use Rattle.buffers.proofs.Result.{two_words}
use Rattle.buffers.proofs.put_plan_result.Goals as goal

pub returns-then-res-eq-PLAN_RESULT : goal.returns-then-res-eq-PLAN_RESULT
returns-then-res-eq-PLAN_RESULT c =
    let a = c.args in
    c.put_word-then-res-eq-PLAN_RESULT.ensures
    ∙ ap (λ (l : List ℕ). sets l 4 (word a.number)) c.put_word.ensures
    ∙ two_words a.answer a.number a.res.now c.if-res-eq-PLAN_RESULT.true

pub returns-else-res-eq-PLAN_RESULT : goal.returns-else-res-eq-PLAN_RESULT
unfolding plan_result_after
returns-else-res-eq-PLAN_RESULT c = simp (ne_eqb _ _ c.if-res-eq-PLAN_RESULT.false)
