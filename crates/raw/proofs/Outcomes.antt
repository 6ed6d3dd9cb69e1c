-- Claims 34 and 36: every pair has an outcome. Assumes nothing.
use mathlib.Core.Path.{refl, ap}
use lib.Dec.{eqb}
use lib.ListN.{length}
use Rattle.law.specs.Choice.{split}
use Rattle.record.specs.declared.Answer.TheVariants.{BadBuffers}
use Rattle.record.specs.Answers.{answer_number}
use Rattle.record.specs.Lengths.{result_length}
use Rattle.buffers.specs.Buffers.{fit_images}
use Rattle.capture.specs.Merge.{Judgement}
use Rattle.capture.proofs.OneJudgement.{one_judgement}
use Rattle.capture.proofs.Some.{some_judgement}
use Rattle.engine.specs.Playing.{unplayed, play_left}
use Rattle.merged.specs.Merging.{unwritten, merge_left}
use Rattle.raw.specs.Raw.{SomeMerge, SomePlay}
use Rattle.raw.proofs.Claims.{clash}

pub some_merge : SomeMerge
some_merge levels trace x =
    let j = some_judgement levels trace in
    split (eqb (length x.result) result_length)
    (λ t. (merge_left j.0 x, record { unfit = λ f. clash t f; judged = λ f k h. ap (λ (i : Judgement). merge_left i x) (one_judgement j.1 h); some = λ f. j }))
    (λ t. (unwritten (answer_number BadBuffers) 0 0 x, record { unfit = λ f. refl; judged = λ f. clash f t; some = λ f. clash f t }))

pub some_play : SomePlay
some_play levels trace x =
    let j = some_judgement levels trace in
    split (fit_images x.images x.result)
    (λ t. (play_left j.0 x, record { unfit = λ f. clash t f; judged = λ f k h. ap (λ (i : Judgement). play_left i x) (one_judgement j.1 h); some = λ f. j }))
    (λ t. (unplayed (answer_number BadBuffers) 0 0 x, record { unfit = λ f. refl; judged = λ f. clash f t; some = λ f. clash f t }))
