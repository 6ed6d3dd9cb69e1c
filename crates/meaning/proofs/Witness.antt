-- Where it can be told whether two orders end alike, orders that do not all end alike show two that differ: by going through all orders.
use mathlib.Core.Path.{◌≡◌, sym, ◌∙◌}
use mathlib.Core.List.{List, [], ◌∷◌}
use mathlib.Core.Logic.{◌⊎◌, inl, inr, ⊎_elim}
use Prim.Native.Nat.{ℕ, ◌≤◌}
use native.Mathlib.Omega.{arith}
use Rattle.law.specs.Choice.{lt_or_le}
use Rattle.law.specs.Words.{All, Rising}
use Rattle.meaning.specs.Meaning.{Rules, NeverBack, Allowed, outcome, upto, Alike, Differ}
use Rattle.meaning.proofs.Allowing.{itself, back_filter}
use Rattle.meaning.proofs.AllOrders.{Keeps, orders, all_orders, orders_keep}

abbrev One : Type 0 → Type 0
One P = P ⊎ (P → ⊥)

both : {P Q : Type 0} → One P → One Q → One (P × Q)
both (inl p) (inl q) = inl (p, q)
both (inl p) (inr n) = inr (λ r. n r.1)
both (inr n) q = inr (λ r. n r.0)

gives : {P Q : Type 0} → One P → One Q → One (P → Q)
gives (inl p) (inl q) = inl (λ r. q)
gives (inl p) (inr n) = inr (λ f. n (f p))
gives (inr n) q = inl (λ r. absurd (n r))

module _ {X : Type 0} (P : X → Type 0) (tell : (x : X) → One (P x)) where
  tell_all : (l : List X) → One (All P l)
  unfolding All
  tell_all [] = inl tt
  tell_all (x ∷ l) = both (tell x) (tell_all l)

  -- all are so, or one is not, of which Q holds as of all
  try_one : (Q : X → Type 0) (l : List X) (x : X) → Q x → One (P x) → All P l ⊎ ((y : X) × Q y × (P y → ⊥)) → (P x × All P l) ⊎ ((y : X) × Q y × (P y → ⊥))
  try_one Q l x q (inl p) (inl h) = inl (p, h)
  try_one Q l x q (inl p) (inr w) = inr w
  try_one Q l x q (inr n) r = inr (x, q, n)

  try : (Q : X → Type 0) (l : List X) → All Q l → All P l ⊎ ((x : X) × Q x × (P x → ⊥))
  unfolding All
  try Q [] h = inl tt
  try Q (x ∷ l) h = try_one Q l x h.0 (tell x) (try Q l h.1)

module _ {A S R : Type 0} (m : Rules A S R) where
  tell_back : (o : List A) → One (NeverBack m o)
  unfolding Rising
  tell_back [] = inl tt
  tell_back (a ∷ o) =
      both (tell_all (λ (b : A). m.stamp a ≤ m.stamp b) (λ b. ⊎_elim (λ l. inr (λ k. omega arith)) (λ k. inl k) (lt_or_le (m.stamp b) (m.stamp a))) o) (tell_back o)

  -- every allowed order of rs passes, or one does not
  module _ (P : List A → Type 0) (tell : (o : List A) → One (P o)) where
    fails : (rs o : List A) → Keeps m rs o → ((NeverBack m o → P o) → ⊥) → One (NeverBack m o) → (o : List A) × Allowed m rs o × (P o → ⊥)
    fails rs o k n (inl b) = (o, record { keeps = k; onward = b }, λ p. n (λ c. p))
    fails rs o k n (inr f) = absurd (n (λ c. absurd (f c)))

    every_allowed : (rs : List A) → ((o : List A) → Allowed m rs o → P o) ⊎ ((o : List A) × Allowed m rs o × (P o → ⊥))
    every_allowed rs =
        ⊎_elim (λ h. inl (λ o a. all_orders m rs (λ q. NeverBack m q → P q) h o a.keeps a.onward)) (λ w. inr (fails rs w.0 w.1 w.2 (tell_back w.0)))
        (try (λ q. NeverBack m q → P q) (λ q. gives (tell_back q) (tell q)) (Keeps m rs) (orders m rs) (orders_keep m rs))

  module _ (s : S) (tell : (o q : List A) → One (outcome m o s ≡ outcome m q s)) where
    -- two allowed orders of the records so far differ
    pub two_differ : (rs : List A) → NeverBack m rs → (t : ℕ) → Differ m rs s t →
        (o : List A) × (p : List A) × Allowed m (upto m t rs) o × Allowed m (upto m t rs) p × (outcome m o s ≡ outcome m p s → ⊥)
    unfolding Differ Alike
    two_differ rs b t h =
        ⊎_elim (λ q. absurd (h (λ o p x y. q o x ∙ sym (q p y)))) (λ w. (w.0, upto m t rs, w.1, itself m _ (back_filter m _ rs b), w.2))
        (every_allowed (λ o. outcome m o s ≡ outcome m (upto m t rs) s) (λ o. tell o (upto m t rs)) (upto m t rs))

    pub differ_two : (rs : List A) (t : ℕ) (o p : List A) → Allowed m (upto m t rs) o → Allowed m (upto m t rs) p → (outcome m o s ≡ outcome m p s → ⊥) → Differ m rs s t
    unfolding Differ Alike
    differ_two rs t o p a b n h = n (h o p a b)
