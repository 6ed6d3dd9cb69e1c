-- The three ways in which the call ends.
use Prim.Native.Nat.{ℕ}
use mathlib.Core.Path.{◌≡◌, sym, ap, ap₂, ◌∙◌}
use mathlib.Core.Bool.{Bool, true, false, not}
use mathlib.Core.List.{List}
use borrow.Author.Tests.{not-true, not-false}
use Rattle.law.specs.Choice.{true_not_false}
use Rattle.record.specs.declared.Board.{Board}
use Rattle.record.specs.declared.Answer.TheVariants.{Settled, BadBuffers}
use Rattle.record.specs.Answers.{answer_number}
use Rattle.image.specs.Images.{Images, images_of}
use Rattle.level.specs.declared.Level.{Level}
use Rattle.buffers.specs.Buffers.{fit_images, result_after}
use Rattle.capture.specs.Merge.{Judgement, refused, merged, Judges}
use Rattle.capture.proofs.OneJudgement.{one_judgement}
use Rattle.judge.specs.declared.JudgeAnswer.{JudgeAnswer}
use Rattle.judge.specs.Judging.{judge_number, Judged, judged_refused, judged_both, Judging}
use Rattle.judge.proofs.Usable.{refused_by, both_by}
use Rattle.weave.specs.declared.Weave.{Weave}
use Rattle.weave.specs.Weaving.{Starts}
use Rattle.engine.specs.Playing.{Lent, Played, played_as, unplayed, play_left, Plays}
use Rattle.engine.specs.Straight.{PlaysAll}

clash : {A : Type 0} {t : Bool} → t ≡ true → t ≡ false → A
clash e f = absurd (true_not_false (sym e ∙ f))

abbrev left_as : ℕ → Images → List ℕ → Played
left_as n x r = played_as n (record { images = x; result = r })

-- a judgement that holds is the only one
settle : {levels trace : List ℕ} {x : Lent} {e : Played} (j : Judgement) → fit_images x.images x.result ≡ true → Judges levels trace j → e ≡ play_left j x → Plays levels trace x e
settle {levels} {trace} {x} {e} j t h q = record {
  unfit = λ u. clash t u;
  judged = λ u k z. q ∙ ap (λ (y : Judgement). play_left y x) (one_judgement h z);
  some = λ u. (j, h);
}

module _ {levels trace : List ℕ} {x : Images} {old new : List ℕ} {r : Bool} {n : ℕ} (fits : r ≡ fit_images x old) where
  pub call_unfit : {k : ℕ} → not r ≡ true → k ≡ answer_number BadBuffers → (n ≡ k) × (new ≡ result_after k 0 0 0 old) → Plays levels trace (record { images = x; result = old }) (left_as n x new)
  unfolding unplayed
  call_unfit h e q = record {
    unfit = λ u. ap₂ (λ (k : ℕ) (l : List ℕ). left_as k x l) (q.0 ∙ e) (q.1 ∙ ap (λ (k : ℕ). result_after k 0 0 0 old) e);
    judged = λ u j z. clash u (sym fits ∙ not-true r h);
    some = λ u. clash u (sym fits ∙ not-true r h);
  }

  module _ (h : not r ≡ false) {j : Judged} (g : Judging levels trace j) where
    pub call_refused : {a : JudgeAnswer} {k f i : ℕ} → j ≡ judged_refused a k f → i ≡ judge_number a → (n ≡ i) × (new ≡ result_after i k 0 f old) → Plays levels trace (record { images = x; result = old }) (left_as n x new)
    unfolding unplayed play_left
    call_refused {a} {k} {f} d e q =
        settle (refused (judge_number a) k f) (sym fits ∙ not-false r h) (refused_by g a k f d)
        (ap₂ (λ (i : ℕ) (l : List ℕ). left_as i x l) (q.0 ∙ e) (q.1 ∙ ap (λ (b : ℕ). result_after b k 0 f old) e))

    pub call_both : {b : Board} {first : ℕ} {a : Level} {at : ℕ} {w : Weave} {y z : Images} {k : ℕ} → j ≡ judged_both b first a at → Starts levels trace a at first w → PlaysAll w b x y → z ≡ y →
        k ≡ answer_number Settled → (n ≡ k) × (new ≡ result_after k 0 0 0 old) → Plays levels trace (record { images = x; result = old }) (left_as n z new)
    unfolding play_left
    call_both {b} {first} {a} {at} {w} {y} d s p same e q =
        let u = both_by g b first a at d in
        let left = s.starts b u.rs u.ls u.m u.readable u.place u.captures u.behind u.in_order in
        let z = same ∙ p.plays u.m left u.small in
        let done = q.1 ∙ ap (λ (k : ℕ). result_after k 0 0 0 old) e in
        settle (merged b u.m) (sym fits ∙ not-false r h) u.judges (λ i. left_as ((q.0 ∙ e) i) (z i) (done i))

-- images by their parts
pub images_same : {f g h i f' g' h' i' : List ℕ} → f ≡ f' → g ≡ g' → h ≡ h' → i ≡ i' → images_of f g h i ≡ images_of f' g' h' i'
images_same a b c d = λ t. images_of (a t) (b t) (c t) (d t)
