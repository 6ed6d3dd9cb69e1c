-- Both texts have one judgement.
use mathlib.Core.Path.{◌≡◌, refl, sym, ap₂, subst, ◌∙◌}
use mathlib.Core.Bool.{Bool, true, false}
use mathlib.Core.List.{List}
use Prim.Native.Nat.{ℕ}
use Rattle.law.specs.Choice.{true_not_false}
use Rattle.record.specs.declared.Record.{Record}
use Rattle.record.specs.Answers.{answer_number, levels_answer_number}
use Rattle.text.proofs.OneReading.{readable_one, not_both, refused_one}
use Rattle.level.specs.declared.Level.{Level}
use Rattle.capture.specs.Taken.{taken_of}
use Rattle.capture.specs.Captures.{Captures, BadCapture}
use Rattle.capture.proofs.OneCapture.{capture_one, capture_not_bad, bad_one}
use Rattle.law.specs.Ordering.{order_one, order_some}
use Rattle.capture.specs.Merge.{number_of, gathered, Merged, Judgement, refused, merged, Judges, long_trace, bad_trace, long_levels, bad_levels, both}

clash : {A : Type 0} {t : Bool} → t ≡ true → t ≡ false → A
clash e f = absurd (true_not_false (sym e ∙ f))

-- the records of both texts can be merged, and in one way
pub merged_some : (ls : List Level) (rs : List Record) → (m : List Record) × Merged ls rs m
merged_some ls rs = order_some number_of (gathered ls rs)

pub merged_one : (ls : List Level) (rs : List Record) {m m' : List Record} → Merged ls rs m → Merged ls rs m' → m ≡ m'
merged_one ls rs p q = order_one number_of p q

module _ {levels trace : List ℕ} where
  pub one_judgement : {j k : Judgement} → Judges levels trace j → Judges levels trace k → j ≡ k
  one_judgement (long_trace l) (long_trace l') = refl
  one_judgement (long_trace l) (bad_trace a n f t w) = clash l t
  one_judgement (long_trace l) (long_levels b rs t q l') = clash l t
  one_judgement (long_trace l) (bad_levels b rs a n t q s w) = clash l t
  one_judgement (long_trace l) (both b rs ls m t q s c p) = clash l t
  one_judgement (bad_trace a n f t w) (long_trace l) = clash l t
  one_judgement (bad_trace a n f t w) (bad_trace a' n' f' t' w') = let e = refused_one w w' in λ i. refused (answer_number (e.0 i)) (e.1 i) (e.2 i)
  one_judgement (bad_trace a n f t w) (long_levels b rs t' q l) = absurd (not_both q w)
  one_judgement (bad_trace a n f t w) (bad_levels b rs a' n' t' q s w') = absurd (not_both q w)
  one_judgement (bad_trace a n f t w) (both b rs ls m t' q s c p) = absurd (not_both q w)
  one_judgement (long_levels b rs t q l) (long_trace l') = clash l' t
  one_judgement (long_levels b rs t q l) (bad_trace a n f t' w) = absurd (not_both q w)
  one_judgement (long_levels b rs t q l) (long_levels b' rs' t' q' l') = refl
  one_judgement (long_levels b rs t q l) (bad_levels b' rs' a n t' q' s w) = clash l s
  one_judgement (long_levels b rs t q l) (both b' rs' ls m t' q' s c p) = clash l s
  one_judgement (bad_levels b rs a n t q s w) (long_trace l) = clash l t
  one_judgement (bad_levels b rs a n t q s w) (bad_trace a' n' f' t' w') = absurd (not_both q w')
  one_judgement (bad_levels b rs a n t q s w) (long_levels b' rs' t' q' l) = clash l s
  one_judgement (bad_levels b rs a n t q s w) (bad_levels b' rs' a' n' t' q' s' w') =
      let r = (readable_one q q').1 in
      let e = bad_one (subst (λ (x : List Record). BadCapture (taken_of x) levels a n) r w) w' in
      λ i. refused (levels_answer_number (e.0 i)) (e.1 i) 0
  one_judgement (bad_levels b rs a n t q s w) (both b' rs' ls m t' q' s' c p) =
      absurd (capture_not_bad (subst (λ (x : List Record). Captures (taken_of x) levels ls) (sym (readable_one q q').1) c) w)
  one_judgement (both b rs ls m t q s c p) (long_trace l) = clash l t
  one_judgement (both b rs ls m t q s c p) (bad_trace a n f t' w) = absurd (not_both q w)
  one_judgement (both b rs ls m t q s c p) (long_levels b' rs' t' q' l) = clash l s
  one_judgement (both b rs ls m t q s c p) (bad_levels b' rs' a n t' q' s' w) =
      absurd (capture_not_bad (subst (λ (x : List Record). Captures (taken_of x) levels ls) (readable_one q q').1 c) w)
  one_judgement (both b rs ls m t q s c p) (both b' rs' ls' m' t' q' s' c' p') =
      let e = readable_one q q' in
      let l = capture_one (subst (λ (x : List Record). Captures (taken_of x) levels ls) e.1 c) c' in
      ap₂ merged e.0 (merged_one ls' rs' (subst (λ (y : List Level). Merged y rs' m) l (subst (λ (x : List Record). Merged ls x m) e.1 p)) p')
