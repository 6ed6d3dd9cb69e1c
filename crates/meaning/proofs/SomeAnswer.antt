-- Demand 3 admits an answer for every trace whose stamps never go back, where it can be told whether two orders end alike: stamp by stamp one of the reasons holds,
-- or none does and the rest is answered. With `means_one` there is exactly one.
use Prim.Native.Nat.{ℕ, zero, suc, ◌≤◌, ◌<◌}
use native.Mathlib.Omega.{arith}
use mathlib.Core.Path.{◌≡◌, sym, ap, subst}
use mathlib.Core.Bool.{false}
use mathlib.Core.Logic.{◌⊎◌, inl, inr, ⊎_elim}
use mathlib.Core.List.{List, [], ◌∷◌, ◌++◌}
use lib.ListN.{length, length-append}
use borrow.Author.Tests.{leb-true, le-leb, ltb-true}
use Rattle.law.specs.Choice.{split, lt_or_le}
use Rattle.law.specs.Words.{filter, keep, All, Rising}
use Rattle.law.specs.Lists.{all_filter, all_pass}
use Rattle.meaning.specs.Meaning.{Channel, most, Rules, Answer, settled, stopped, crowded, differ, lost, of, NeverBack, after, outcome, upto, at, Alike, Crowded, Means}
use Rattle.meaning.specs.Channels.{channels}
use Rattle.meaning.proofs.Channels.{every_channel}
use Rattle.meaning.proofs.Onward.{goes_on}
use Rattle.meaning.proofs.Allowing.{itself, back_filter, above, halves, level}
use Rattle.meaning.proofs.AllOrders.{orders, listed_alike, alike_listed}
use Rattle.meaning.proofs.Steps.{means_end, means_crowded, means_differ, means_lost, means_on}

-- it is known whether P holds
abbrev Told : Type 0 → Type 0
Told P = P ⊎ (P → ⊥)

module _ {X : Type 0} (P : X → Type 0) (told : (x : X) → Told (P x)) where
  told_both : {Q R : Type 0} → Told Q → Told R → Told (Q × R)
  told_both (inl p) (inl q) = inl (p, q)
  told_both (inl p) (inr n) = inr (λ r. n r.1)
  told_both (inr n) q = inr (λ r. n r.0)

  told_all : (l : List X) → Told (All P l)
  unfolding All
  told_all [] = inl tt
  told_all (x ∷ l) = told_both (told x) (told_all l)

all_even : {A : Type 0} (f : A → ℕ) (t : ℕ) (l : List A) → All (λ a. t ≤ f a) l → All (λ a. f a ≤ t) l → All (λ a. f a ≡ t) l
unfolding All
all_even f t [] h k = tt
all_even f t (a ∷ l) h k =
    let low : t ≤ f a = h.0 in
    let high : f a ≤ t = k.0 in
    (omega arith, all_even f t l h.1 k.1)

module _ {A S R : Type 0} (m : Rules A S R) where
  -- some channel of the list has too many records at the stamp, or none has
  told_over : (rs : List A) (t : ℕ) (cs : List Channel) → Crowded m rs t ⊎ All (λ c. length (of m c (at m t rs)) ≤ most c) cs
  unfolding Crowded All
  told_over rs t [] = inr tt
  told_over rs t (c ∷ cs) = ⊎_elim (λ h. inl (c, h)) (λ h. ⊎_elim (λ k. inl k) (λ k. inr (h, k)) (told_over rs t cs)) (lt_or_le (most c) (length (of m c (at m t rs))))

  told_crowded : (rs : List A) (t : ℕ) → Told (Crowded m rs t)
  unfolding Crowded
  told_crowded rs t =
      ⊎_elim (λ h. inl h)
      (λ k. inr (λ h. let l = every_channel (λ c. length (of m c (at m t rs)) ≤ most c) k h.0 in let u = h.1 in omega arith)) (told_over rs t channels)

  -- from a state of this kind it is known whether two orders end alike, and every order ends in one of this kind
  module _ (Kind : S → Type 0) (keeps : (o : List A) (s : S) → Kind s → Kind (after m o s)) (tell : (o q : List A) (s : S) → Kind s → Told (outcome m o s ≡ outcome m q s)) where
    told_alike : (p : List A) (t : ℕ) → All (λ (a : A). m.stamp a ≡ t) p → (s : S) → Kind s → Told (Alike m p s)
    told_alike p t hp s kind =
        ⊎_elim (λ h. inl (listed_alike m p s h)) (λ n. inr (λ h. n (alike_listed m p t hp s h)))
        (told_all (λ o. outcome m o s ≡ outcome m p s) (λ o. tell o p s kind) (orders m p))

    -- the records p of one stamp, and those above it
    module _ (p rest : List A) (t : ℕ) (hp : All (λ (a : A). m.stamp a ≡ t) p) (hr : All (λ (a : A). t < m.stamp a) rest) (s : S) (kind : Kind s) (sure : m.lost s ≡ false)
        (more : (next : S) → Kind next → m.lost next ≡ false → (z : Answer S R) × Means m rest next z) where
      one_stamp : (z : Answer S R) × Means m (p ++ rest) s z
      one_stamp =
          ⊎_elim (λ c. (stopped crowded t (outcome m [] s), means_crowded m p rest t hp hr s sure c))
          (λ c.
          ⊎_elim
          (λ d.
          let own = itself m p (level m t p hp) in
          split (m.lost (after m p s)) (λ l. (stopped lost t (outcome m [] s), means_lost m p rest t hp hr s sure c d p own l))
          (λ l. let z = more (after m p s) (keeps p s kind) l in (goes_on (outcome m p s) z.0, means_on m p rest t hp hr s sure c d p own l z.0 z.1)))
          (λ d. (stopped differ t (outcome m [] s), means_differ m p rest t hp hr s sure c d))
          (told_alike p t hp s kind))
          (told_crowded (p ++ rest) t)

    -- the records of the first stamp, and the rest, which is shorter
    module _ (a : A) (o : List A) (back : NeverBack m (a ∷ o)) where
      abbrev t : ℕ
      t = m.stamp a

      lowest : All (λ (b : A). t ≤ m.stamp b) (a ∷ o)
      unfolding All Rising
      lowest = (omega arith, back.0)

      first : All (λ (b : A). m.stamp b ≡ t) (upto m t (a ∷ o))
      first = all_even m.stamp t (upto m t (a ∷ o)) (all_filter _ _ (a ∷ o) lowest) (all_pass _ _ (λ b e. leb-true _ _ e) (a ∷ o))

      higher : All (λ (b : A). t < m.stamp b) (above m t (a ∷ o))
      higher = all_pass _ _ (λ b e. ltb-true _ _ e) (a ∷ o)

      parts : a ∷ o ≡ upto m t (a ∷ o) ++ above m t (a ∷ o)
      parts = halves m (a ∷ o) t back

      not_none : 1 ≤ length (upto m t (a ∷ o))
      unfolding filter keep
      not_none = rw (le-leb t t (omega arith)) (omega arith)

      shorter : length (above m t (a ∷ o)) ≤ length o
      shorter = omega (arith, not_none, ap length parts, length-append (upto m t (a ∷ o)) (above m t (a ∷ o)))

    -- rs is answered from any state of this kind, where the status is not lost
    abbrev Answered : List A → Type 0
    Answered rs = NeverBack m rs → (s : S) → Kind s → m.lost s ≡ false → (z : Answer S R) × Means m rs s z

    step : (n : ℕ) → ((rest : List A) → length rest ≤ n → Answered rest) → (rs : List A) → length rs ≤ suc n → Answered rs
    step n more [] h b s g k = (settled (outcome m [] s), means_end m s k)
    step n more (a ∷ o) h b s g k =
        subst (λ (rs : List A). (z : Answer S R) × Means m rs s z) (sym (parts a o b))
        (one_stamp (upto m (m.stamp a) (a ∷ o)) (above m (m.stamp a) (a ∷ o)) (m.stamp a) (first a o b) (higher a o b) s g k
        (more (above m (m.stamp a) (a ∷ o)) (omega (arith, shorter a o b)) (back_filter m _ (a ∷ o) b)))

    some_within : (n : ℕ) (rs : List A) → length rs ≤ n → Answered rs
    some_within zero rs h = step 0 (λ rest l b s g k. none rest l s k) rs (omega arith)
      where
        none : (rest : List A) → length rest ≤ 0 → (s : S) → m.lost s ≡ false → (z : Answer S R) × Means m rest s z
        none [] l s k = (settled (outcome m [] s), means_end m s k)
        none (a ∷ o) l s k = absurd (omega arith)
    some_within (suc n) rs h = step n (some_within n) rs h

    pub some_answer : (rs : List A) → NeverBack m rs → (s : S) → Kind s → m.lost s ≡ false → (z : Answer S R) × Means m rs s z
    some_answer rs = some_within (length rs) rs (omega arith)
