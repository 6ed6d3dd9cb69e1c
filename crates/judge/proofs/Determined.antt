-- The judgement of two texts is one: any two answers that the promise of `judge` admits are equal.
use mathlib.Core.Path.{◌≡◌, sym, ap, subst, ◌∙◌}
use mathlib.Core.List.{List, [], ◌∷◌}
use Prim.Native.Nat.{ℕ}
use lib.Dec.{eqb}
use lib.ListN.{length}
use Rattle.std.proofs.Common.{rules}
use Rattle.law.specs.Words.{pick}
use Rattle.record.specs.declared.Answer.TheVariants.{Settled, BadBuffers, TooLong, BadLine, BackInTime, Impossible, Crowded, OrdersDiffer, StatusLost}
use Rattle.record.specs.declared.LevelsAnswer.TheVariants.{BadLevel, Together, TooShort}
use Rattle.record.specs.declared.Record.{Record}
use Rattle.line.specs.Boards.{spelled_board}
use Rattle.text.proofs.OneReading.{readable_one}
use Rattle.level.specs.declared.Level.{Level}
use Rattle.level.specs.Spelled.{spelled_level}
use Rattle.capture.specs.Taken.{taken_of}
use Rattle.capture.specs.Captures.{Captures}
use Rattle.capture.specs.Merge.{Judgement, refused, merged, both}
use Rattle.capture.proofs.OneCapture.{capture_one}
use Rattle.capture.proofs.OneJudgement.{merged_some, one_judgement}
use Rattle.judge.specs.declared.JudgeAnswer.{JudgeAnswer}
use Rattle.judge.specs.declared.JudgeAnswer.TheVariants.{Text, Levels}
use Rattle.judge.specs.Judging.{judge_number, Judged, judged_refused, judged_both, Judging, is_refused, is_both}

-- an answer's number tells it
abbrev answer_of : ℕ → JudgeAnswer
answer_of n =
    pick (eqb n 0) (Text Settled)
    (pick (eqb n 1) (Text BadBuffers)
    (pick (eqb n 2) (Text TooLong)
    (pick (eqb n 3) (Text BadLine)
    (pick (eqb n 4) (Text BackInTime)
    (pick (eqb n 5) (Text Impossible)
    (pick (eqb n 6) (Text Crowded)
    (pick (eqb n 7) (Text OrdersDiffer)
    (pick (eqb n 8) (Text StatusLost)
    (pick (eqb n 10) (Levels TooShort)
    (pick (eqb n 12) (Levels BadLevel) (Levels Together)))))))))))

number_tells : (a : JudgeAnswer) → answer_of (judge_number a) ≡ a
number_tells a = search rules

-- the code's word for a judgement that refuses
abbrev told : Judgement → Judged
told (refused n k f) = judged_refused (answer_of n) k f
told (merged b m) = judged_refused (Text Settled) 0 0

head_of : {a b : Level} {l k : List Level} → a ∷ l ≡ b ∷ k → a ≡ b
head_of {a} e = ap (λ (l : List Level). first a l) e
  where
    first : Level → List Level → Level
    first d [] = d
    first d (x ∷ l) = x

pub judge_determined : (levels trace : List ℕ) (r r' : Judged) → Judging levels trace r → Judging levels trace r' → r ≡ r'
judge_determined levels trace r r' (is_refused n k f h) (is_refused n' k' f' h') =
    ap (λ (x : JudgeAnswer). judged_refused x k f) (sym (number_tells n)) ∙ ap told (one_judgement h h') ∙ ap (λ (x : JudgeAnswer). judged_refused x k' f') (number_tells n')
judge_determined levels trace r r' (is_refused n k f h) (is_both b rs a ls t q s c) =
    let m = merged_some (a ∷ ls) rs in
    cc (one_judgement h (both b rs (a ∷ ls) m.0 t q s c m.1))
judge_determined levels trace r r' (is_both b rs a ls t q s c) (is_refused n k f h) =
    let m = merged_some (a ∷ ls) rs in
    cc (one_judgement h (both b rs (a ∷ ls) m.0 t q s c m.1))
judge_determined levels trace r r' (is_both b rs a ls t q s c) (is_both b' rs' a' ls' t' q' s' c') =
    let e = readable_one q q' in
    let g = head_of (capture_one (subst (λ (x : List Record). Captures (taken_of x) levels (a ∷ ls)) e.1 c) c') in
    λ i. judged_both (e.0 i) (length (spelled_board (e.0 i))) (g i) (length (spelled_level (g i)))
