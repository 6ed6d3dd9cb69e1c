-- Two machines beside each other over the same records: where states that stand to each other are played to such, and say what is alike, so are they after an order, and line by line what they show is alike. By the order, and by the lines. Assumes nothing.
use mathlib.Core.Bool.{Bool, true, false}
use mathlib.Core.List.{List, [], ◌∷◌, ◌++◌}
use Prim.Native.Nat.{ℕ, zero, suc}
use lib.ListN.{take, drop, get_or}
use Rattle.law.specs.Words.{All, keep, pick}
use Rattle.meaning.specs.Meaning.{Channel, same, Rules, after, replies, outcome}
use Rattle.meaning.specs.Listing.{laid, shown_at}
use Rattle.meaning.proofs.TwoMachines.{other}

-- ---- lists whose elements are alike, one by one
module _ {R K : Type 0} (Like : R → K → Type 0) where
  unfoldable pub Pairwise : List R → List K → Type 0
  Pairwise [] [] = Unit {0}
  Pairwise [] (k ∷ ks) = ⊥
  Pairwise (r ∷ rs) [] = ⊥
  Pairwise (r ∷ rs) (k ∷ ks) = Like r k × Pairwise rs ks

  pairs_keep : (t : Bool) (r : R) (k : K) (rs : List R) (ks : List K) → Like r k → Pairwise rs ks → Pairwise (keep t r rs) (keep t k ks)
  unfolding keep Pairwise
  pairs_keep true r k rs ks l h = (l, h)
  pairs_keep false r k rs ks l h = h

  -- the next of either, and then the rest
  pairs_next : (rs : List R) (ks : List K) → Pairwise rs ks → (us : List R) (vs : List K) → Pairwise us vs → Pairwise (take 1 rs ++ us) (take 1 ks ++ vs)
  unfolding Pairwise
  pairs_next [] [] h us vs g = g
  pairs_next [] (k ∷ ks) h us vs g = absurd h
  pairs_next (r ∷ rs) [] h us vs g = absurd h
  pairs_next (r ∷ rs) (k ∷ ks) h us vs g = (h.0, g)

  pairs_rest : (rs : List R) (ks : List K) → Pairwise rs ks → Pairwise (drop 1 rs) (drop 1 ks)
  unfolding Pairwise
  pairs_rest [] [] h = tt
  pairs_rest [] (k ∷ ks) h = absurd h
  pairs_rest (r ∷ rs) [] h = absurd h
  pairs_rest (r ∷ rs) (k ∷ ks) h = h.1

  pairs_pick : (t : Bool) (rs us : List R) (ks vs : List K) → Pairwise rs ks → Pairwise us vs → Pairwise (pick t rs us) (pick t ks vs)
  pairs_pick true rs us ks vs h g = h
  pairs_pick false rs us ks vs h g = g

  -- at each place, and behind the end
  pub pairs_at : (rs : List R) (ks : List K) → Pairwise rs ks → (r : R) (k : K) → Like r k → (n : ℕ) → Like (get_or rs n r) (get_or ks n k)
  unfolding Pairwise
  pairs_at [] [] h r k l n = l
  pairs_at [] (y ∷ ks) h r k l n = absurd h
  pairs_at (x ∷ rs) [] h r k l n = absurd h
  pairs_at (x ∷ rs) (y ∷ ks) h r k l zero = h.0
  pairs_at (x ∷ rs) (y ∷ ks) h r k l (suc n) = pairs_at rs ks h.1 r k l n

module _ {A S R T K : Type 0} (m : Rules A S R) (play : T → A → T) (says : T → A → K) (gone : T → Bool) (Like : R → K → Type 0) where
  abbrev n : Rules A T K
  n = other m play says gone

  pairs_laid : (rs : List A) (f : Channel → List R) (g : Channel → List K) → ((c : Channel) → Pairwise Like (f c) (g c)) → Pairwise Like (laid m rs f) (laid n rs g)
  unfolding laid Pairwise
  pairs_laid [] f g h = tt
  pairs_laid (a ∷ rs) f g h =
      let c = m.channel a in
      pairs_next Like (f c) (g c) (h c) _ _
      (pairs_laid rs (λ d. pick (same d c) (drop 1 (f d)) (f d)) (λ d. pick (same d c) (drop 1 (g d)) (g d))
      (λ d. pairs_pick Like (same d c) (drop 1 (f d)) (f d) (drop 1 (g d)) (g d) (pairs_rest Like (f d) (g d) (h d)) (h d)))

  module _ (Ok : A → Type 0) (Follows : S → T → Type 0) (plays : (a : A) → Ok a → (s : S) (t : T) → Follows s t → Follows (m.play s a) (play t a)) (tells : (a : A) → (s : S) (t : T) → Follows s t → Like (m.says s a) (says t a)) where
    pub after_follows : (o : List A) → All Ok o → (s : S) (t : T) → Follows s t → Follows (after m o s) (after n o t)
    unfolding after All
    after_follows [] k s t h = h
    after_follows (a ∷ o) k s t h = after_follows o k.1 (m.play s a) (play t a) (plays a k.0 s t h)

    replies_like : (c : Channel) (o : List A) → All Ok o → (s : S) (t : T) → Follows s t → Pairwise Like (replies m c o s) (replies n c o t)
    unfolding replies All Pairwise
    replies_like c [] k s t h = tt
    replies_like c (a ∷ o) k s t h =
        pairs_keep Like (same c (m.channel a)) (m.says s a) (says t a) _ _ (tells a s t h) (replies_like c o k.1 (m.play s a) (play t a) (plays a k.0 s t h))

    pub shown_like : (rs o : List A) → All Ok o → (s : S) (t : T) → Follows s t → Pairwise Like (shown_at m rs (outcome m o s)) (shown_at n rs (outcome n o t))
    shown_like rs o k s t h = pairs_laid rs (λ c. replies m c o s) (λ c. replies n c o t) (λ c. replies_like c o k s t h)
