-- The verdict on a stamp is determined.
use mathlib.Core.Path.{◌≡◌, ap, subst}
use mathlib.Core.Logic.{◌↔◌}
use native.Mathlib.Omega.{arith}
use Rattle.std.proofs.Common.{rules}
use Rattle.law.specs.Choice.{true_not_false}
use Rattle.record.specs.Answers.{answer_number}
use Rattle.record.specs.declared.Board.{Board}
use Rattle.controls.specs.declared.Controls.{Controls}
use Rattle.orders.specs.declared.Held.{Held}
use Rattle.orders.specs.declared.Verdict.{Verdict}
use Rattle.orders.specs.declared.Verdict.TheVariants.{Crowded, Differ, Lost}
use Rattle.orders.specs.Verdicts.{TooMany, Few, Judged, verdict_answer}

-- a crowded stamp does not have few records
crowded : {A : Type 0} (h : Held) → TooMany h → Few h → A
crowded h (c, k) f = let l = f c in absurd (omega arith)

pub one_verdict : (b : Board) (h : Held) (s : Controls) (v w : Verdict) → Judged b h s v → Judged b h s w → v ≡ w
unfolding Judged
one_verdict b h s v w p q = search (crowded, true_not_false, rules)

-- the paper's numbers tell verdicts apart
same_verdict : (v w : Verdict) → answer_number (verdict_answer v) ≡ answer_number (verdict_answer w) → v ≡ w
same_verdict v w e = search rules

-- by the paper's numbers: 6 exactly for a crowded stamp, 7 where it is not and orders differ, 8 where neither holds and the status is lost after it
module _ (b : Board) (h : Held) (s : Controls) (v : Verdict) (j : Judged b h s v) where
  numbered : (w : Verdict) → (answer_number (verdict_answer v) ≡ answer_number (verdict_answer w)) ↔ Judged b h s w
  numbered w = (λ e. subst (Judged b h s) (same_verdict v w e) j, λ k. ap (λ (u : Verdict). answer_number (verdict_answer u)) (one_verdict b h s v w j k))

  pub is_six : (answer_number (verdict_answer v) ≡ 6) ↔ Judged b h s Crowded
  is_six = numbered Crowded

  pub is_seven : (answer_number (verdict_answer v) ≡ 7) ↔ Judged b h s Differ
  is_seven = numbered Differ

  pub is_eight : (answer_number (verdict_answer v) ≡ 8) ↔ Judged b h s Lost
  is_eight = numbered Lost
