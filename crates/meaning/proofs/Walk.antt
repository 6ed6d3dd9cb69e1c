-- For a loop over the stamps: Reached says that what the demand says of the rest, from here, it says of the whole with what was shown so far in front. Each step puts one stamp's outcome behind what was shown.
use mathlib.Core.Path.{◌≡◌, refl, sym, ap, subst}
use mathlib.Core.Bool.{false}
use mathlib.Core.List.{List, [], ◌∷◌, ◌++◌, append-nil, append_assoc}
use Prim.Native.Nat.{ℕ, ◌≤◌, ◌<◌}
use native.Mathlib.Omega.{arith}
use Rattle.law.specs.Lists.{all_map, all_behind}
use Rattle.law.specs.Words.{All, Rising}
use Rattle.meaning.specs.Meaning.{Rules, Outcome, Reason, Answer, settled, stopped, NeverBack, Allowed, Alike, Crowded, after, replies, outcome, Means}
use Rattle.meaning.proofs.Onward.{and_then, goes_on}
use Rattle.meaning.proofs.Steps.{means_end, means_on}

module _ {A S R : Type 0} (m : Rules A S R) where
  -- the replay of rs from s has come to rest, and has shown v so far
  pub record Reached (rs : List A) (s : S) (rest : List A) (v : Outcome S R) : Type 0 where
    pub sure : m.lost v.state ≡ false
    pub whole : (y : Answer S R) → Means m rest v.state y → Means m rs s (goes_on v y)

  goes_nothing : (s : S) (y : Answer S R) → goes_on (outcome m [] s) y ≡ y
  unfolding goes_on after replies
  goes_nothing s (settled w) = refl
  goes_nothing s (stopped n t w) = refl

  then_then : (v w x : Outcome S R) → and_then (and_then v w) x ≡ and_then v (and_then w x)
  then_then v w x = λ i. record { state = x.state; replies = λ c. append_assoc (v.replies c) (w.replies c) (x.replies c) i }

  goes_goes : (v w : Outcome S R) (y : Answer S R) → goes_on (and_then v w) y ≡ goes_on v (goes_on w y)
  unfolding goes_on
  goes_goes v w (settled x) = ap settled (then_then v w x)
  goes_goes v w (stopped n t x) = ap (stopped n t) (then_then v w x)

  then_nothing : (v : Outcome S R) → and_then v (outcome m [] v.state) ≡ v
  unfolding after replies
  then_nothing v = λ i. record { state = v.state; replies = λ c. append-nil (v.replies c) i }

  pub reached_start : (rs : List A) (s : S) → m.lost s ≡ false → Reached rs s rs (outcome m [] s)
  unfolding after
  reached_start rs s k = record { sure = k; whole = λ y h. subst (Means m rs s) (sym (goes_nothing s y)) h }

  module _ (rs : List A) (s : S) where
    -- a stamp that passes: p its records, x the order that was played
    pub reached_stamp : (p rest : List A) (t : ℕ) (v : Outcome S R) → Reached rs s (p ++ rest) v → All (λ (a : A). m.stamp a ≡ t) p → All (λ (a : A). t < m.stamp a) rest →
        (Crowded m (p ++ rest) t → ⊥) → Alike m p v.state → (x : List A) → Allowed m p x → m.lost (after m x v.state) ≡ false →
        Reached rs s rest (and_then v (outcome m x v.state))
    reached_stamp p rest t v r hp hr c a x ax k = record {
      sure = k;
      whole = λ y h. subst (Means m rs s) (sym (goes_goes v _ y)) (r.whole _ (means_on m p rest t hp hr v.state r.sure c a x ax k y h));
    }

    -- a stop at the stamp that comes next (by means-crowded, means-differ, means-lost of Steps), and the end
    pub reached_stop : (rest : List A) (v : Outcome S R) → Reached rs s rest v → (n : Reason) (t : ℕ) → Means m rest v.state (stopped n t (outcome m [] v.state)) → Means m rs s (stopped n t v)
    unfolding goes_on
    reached_stop rest v r n t h = subst (λ (w : Outcome S R). Means m rs s (stopped n t w)) (then_nothing v) (r.whole _ h)

    pub reached_end : (v : Outcome S R) → Reached rs s [] v → Means m rs s (settled v)
    unfolding goes_on
    reached_end v r = subst (λ (w : Outcome S R). Means m rs s (settled w)) (then_nothing v) (r.whole _ (means_end m v.state r.sure))

  -- where a run of one stamp ends, all that follows is above it
  pub back_behind : (p l : List A) → NeverBack m (p ++ l) → NeverBack m l
  unfolding Rising
  back_behind [] l h = h
  back_behind (a ∷ p) l h = back_behind p l h.1

  pub run_above : (a : A) (p : List A) (b : A) (rest : List A) → NeverBack m (a ∷ (p ++ (b ∷ rest))) → (m.stamp b ≡ m.stamp a → ⊥) → All (λ (x : A). m.stamp a < m.stamp x) (b ∷ rest)
  unfolding Rising All
  run_above a p b rest h n =
      let le : m.stamp a ≤ m.stamp b = (all_behind _ p (b ∷ rest) h.0).0 in
      let lt : m.stamp a < m.stamp b = omega arith in
      (lt, all_map _ _ (λ x k. omega arith) rest (back_behind p (b ∷ rest) h.1).0)
