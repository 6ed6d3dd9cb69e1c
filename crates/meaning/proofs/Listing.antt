-- What a replay shows is what playing the lines as written gives. By the lines, each by its channel.
use mathlib.Core.Path.{◌≡◌, refl, sym, ap, ◌∙◌}
use mathlib.Core.Bool.{Bool, true, false}
use mathlib.Core.List.{List, [], ◌∷◌, ◌++◌}
use lib.ListN.{take, drop}
use Rattle.law.specs.Words.{keep, pick}
use Rattle.law.specs.Choice.{true_not_false}
use Rattle.meaning.specs.Meaning.{same, Rules, Outcome, NeverBack, after, replies, outcome, Agreed}
use Rattle.meaning.specs.Listing.{said, laid, shown_at}
use Rattle.meaning.proofs.Channels.{same_self}
use Rattle.meaning.proofs.Allowing.{itself}

-- what is kept in front is the next, and behind it is the rest
next_kept : {R : Type 0} (t : Bool) (r : R) (l k : List R) → t ≡ true → take 1 (keep t r l) ++ k ≡ r ∷ k
unfolding keep
next_kept true r l k e = refl
next_kept false r l k e = absurd (true_not_false (sym e))

rest_kept : {R : Type 0} (t : Bool) (r : R) (l : List R) → pick t (drop 1 (keep t r l)) (keep t r l) ≡ l
unfolding keep
rest_kept true r l = refl
rest_kept false r l = refl

module _ {A S R : Type 0} (m : Rules A S R) where
  pub laid_said : (rs : List A) (s : S) → shown_at m rs (outcome m rs s) ≡ said m rs s
  unfolding laid said replies
  laid_said [] s = refl
  laid_said (a ∷ rs) s =
      next_kept (same (m.channel a) (m.channel a)) (m.says s a) _ _ (same_self (m.channel a))
      ∙ ap (λ (k : List R). m.says s a ∷ k)
      ((λ i. laid m rs (λ c. rest_kept (same c (m.channel a)) (m.says s a) (replies m c rs (m.play s a)) i)) ∙ laid_said rs (m.play s a))

  -- where all allowed orders end as v, the lines as written do, and each line's reply is what v shows for it
  pub agreed_lines : (rs : List A) → NeverBack m rs → (s : S) (v : Outcome S R) → Agreed m rs s v → (v.state ≡ after m rs s) × (shown_at m rs v ≡ said m rs s)
  unfolding Agreed
  agreed_lines rs b s v h =
      let e = h rs (itself m rs b) in
      (sym (ap (λ (w : Outcome S R). w.state) e), sym (ap (shown_at m rs) e) ∙ laid_said rs s)
