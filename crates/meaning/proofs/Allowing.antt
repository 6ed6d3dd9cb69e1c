-- Laws of allowed orders: parts of an allowed order are allowed, and where all of p come before all of rest, an allowed order of both is one of p and then one of rest.
use mathlib.Core.Path.{◌≡◌, refl, sym, ap, subst, ◌∙◌}
use mathlib.Core.Bool.{Bool, true, false}
use mathlib.Core.List.{List, [], ◌∷◌, ◌++◌, append-nil}
use Prim.Native.Nat.{ℕ, ◌≤◌, ◌<◌}
use native.Mathlib.Omega.{arith}
use lib.Dec.{leb, ltb}
use borrow.Author.Tests.{leb-true, leb-false, le-leb, lt-leb, lt-ltb, le-ltb}
use Rattle.law.specs.Lists.{all_map, all_append, all_filter, all_pass, filter_append, filter_both, filter_all, filter_none}
use Rattle.law.specs.Words.{filter, keep, All, Rising}
use Rattle.meaning.specs.Meaning.{Channel, Rules, of, NeverBack, Allowed}
use Rattle.meaning.proofs.Channels.{same_self, same_is}
use Rattle.law.specs.Choice.{true_not_false}

module _ {A S R : Type 0} (m : Rules A S R) where
  -- a record of the channel
  abbrev pub In : Channel → A → Type 0
  In c a = m.channel a ≡ c

  pub in_channel : (c : Channel) (rs : List A) → All (In c) (of m c rs)
  in_channel c rs = all_pass (In c) _ (λ a e. same_is c (m.channel a) e) rs

  -- records of one stamp never go back
  pub level : (t : ℕ) (o : List A) → All (λ (a : A). m.stamp a ≡ t) o → NeverBack m o
  unfolding Rising All
  level t [] h = tt
  level t (a ∷ o) h =
      let e : m.stamp a ≡ t = h.0 in
      (all_map _ _ (λ b k. omega arith) o h.1, level t o h.1)

  pub itself : (rs : List A) → NeverBack m rs → Allowed m rs rs
  itself rs h = record { keeps = λ c. refl; onward = h }

  pub back : (rs o : List A) → NeverBack m rs → Allowed m rs o → Allowed m o rs
  back rs o h a = record { keeps = λ c. sym (a.keeps c); onward = h }

  keep_back : (b : Bool) (a : A) (l : List A) → All (λ (x : A). m.stamp a ≤ m.stamp x) l → NeverBack m l → NeverBack m (keep b a l)
  unfolding keep Rising
  keep_back true a l h n = (h, n)
  keep_back false a l h n = n

  pub back_filter : (q : A → Bool) (rs : List A) → NeverBack m rs → NeverBack m (filter q rs)
  unfolding Rising filter
  back_filter q [] h = tt
  back_filter q (a ∷ rs) h = keep_back (q a) a (filter q rs) (all_filter _ q rs h.0) (back_filter q rs h.1)

  -- a part of an allowed order, by any test on the records
  pub allowed_part : (q : A → Bool) (rs o : List A) → Allowed m rs o → Allowed m (filter q rs) (filter q o)
  allowed_part q rs o a = record {
    keeps = λ c. filter_both _ q o ∙ ap (filter q) (a.keeps c) ∙ filter_both q _ rs;
    onward = back_filter q o a.onward;
  }

  -- what holds of each channel's records holds of all
  keep_head : (P : A → Type 0) (b : Bool) (a : A) (l : List A) → b ≡ true → All P (keep b a l) → P a
  unfolding keep All
  keep_head P true a l e h = h.0
  keep_head P false a l e h = absurd (true_not_false (sym e))

  keep_tail : (P : A → Type 0) (b : Bool) (a : A) (l : List A) → All P (keep b a l) → All P l
  unfolding keep All
  keep_tail P true a l h = h.1
  keep_tail P false a l h = h

  pub all_channels : (P : A → Type 0) (rs : List A) → ((c : Channel) → All P (of m c rs)) → All P rs
  unfolding All filter
  all_channels P [] h = tt
  all_channels P (a ∷ rs) h =
      (keep_head P _ a _ (same_self (m.channel a)) (h (m.channel a)), all_channels P rs (λ c. keep_tail P _ a _ (h c)))

  pub allowed_all : (P : A → Type 0) (rs o : List A) → Allowed m rs o → All P rs → All P o
  allowed_all P rs o a h = all_channels P o (λ c. subst (All P) (sym (a.keeps c)) (all_filter P _ rs h))

  -- nothing has one allowed order
  pub allowed_nothing : (o : List A) → Allowed m [] o → o ≡ []
  unfolding All
  allowed_nothing [] a = refl
  allowed_nothing (x ∷ o) a = absurd (allowed_all (λ (b : A). ⊥) [] (x ∷ o) a tt).0

  -- one after the other
  pub back_append : (p rest : List A) (t : ℕ) → All (λ (a : A). m.stamp a ≤ t) p → All (λ (a : A). t < m.stamp a) rest → NeverBack m p → NeverBack m rest → NeverBack m (p ++ rest)
  unfolding Rising All
  back_append [] rest t hp hr n k = k
  back_append (a ∷ p) rest t hp hr n k =
      let low : m.stamp a ≤ t = hp.0 in
      (all_append _ p rest n.0 (all_map _ _ (λ b h. omega arith) rest hr), back_append p rest t hp.1 hr n.1 k)

  pub allowed_append : (p rest o k : List A) (t : ℕ) → All (λ (a : A). m.stamp a ≤ t) p → All (λ (a : A). t < m.stamp a) rest →
      Allowed m p o → Allowed m rest k → Allowed m (p ++ rest) (o ++ k)
  allowed_append p rest o k t hp hr a b = record {
    keeps = λ c. filter_append _ o k ∙ ap (λ (l : List A). l ++ of m c k) (a.keeps c) ∙ ap (λ (l : List A). of m c p ++ l) (b.keeps c) ∙ sym (filter_append _ p rest);
    onward = back_append o k t (allowed_all _ p o a hp) (allowed_all _ rest k b hr) a.onward b.onward;
  }

  -- the records with stamps above t
  abbrev pub above : ℕ → List A → List A
  above t rs = filter (λ (a : A). ltb t (m.stamp a)) rs

  abbrev low : ℕ → List A → List A
  low t rs = filter (λ (a : A). leb (m.stamp a) t) rs

  halves_head : (b : Bool) (a : A) (o : List A) (t : ℕ) → leb (m.stamp a) t ≡ b → NeverBack m (a ∷ o) → o ≡ low t o ++ above t o → a ∷ o ≡ low t (a ∷ o) ++ above t (a ∷ o)
  unfolding Rising filter keep
  halves_head true a o t e n h = rw (e, le-ltb t (m.stamp a) (leb-true _ _ e)) (ap (λ (l : List A). a ∷ l) h)
  halves_head false a o t e n h =
      let up : t < m.stamp a = leb-false _ _ e in
      rw (
        e,
        lt-ltb t (m.stamp a) up,
        filter_none (λ (b : A). leb (m.stamp b) t) o (all_map _ _ (λ b k. lt-leb (m.stamp b) t (omega arith)) o n.0),
        filter_all (λ (b : A). ltb t (m.stamp b)) o (all_map _ _ (λ b k. lt-ltb t (m.stamp b) (omega arith)) o n.0),
      )

  -- what never goes back is the records up to t, then those above
  pub halves : (o : List A) (t : ℕ) → NeverBack m o → o ≡ low t o ++ above t o
  unfolding Rising filter
  halves [] t n = refl
  halves (a ∷ o) t n = halves_head (leb (m.stamp a) t) a o t refl n (halves o t n.1)

  module _ (p rest : List A) (t : ℕ) (hp : All (λ (a : A). m.stamp a ≤ t) p) (hr : All (λ (a : A). t < m.stamp a) rest) where
    pub low_is : low t (p ++ rest) ≡ p
    low_is = filter_append _ p rest
        ∙ ap (λ (l : List A). l ++ low t rest) (filter_all _ p (all_map _ _ (λ a h. le-leb _ _ h) p hp))
        ∙ ap (λ (l : List A). p ++ l) (filter_none _ rest (all_map _ _ (λ a h. lt-leb _ _ h) rest hr))
        ∙ append-nil p

    pub above_is : above t (p ++ rest) ≡ rest
    above_is = filter_append _ p rest
        ∙ ap (λ (l : List A). l ++ above t rest) (filter_none _ p (all_map _ _ (λ a h. le-ltb _ _ h) p hp))
        ∙ filter_all _ rest (all_map _ _ (λ a h. lt-ltb _ _ h) rest hr)

    -- an allowed order of p and rest is one of p, then one of rest
    pub allowed_split : (o : List A) → Allowed m (p ++ rest) o →
        (x : List A) × (y : List A) × Allowed m p x × Allowed m rest y × (o ≡ x ++ y)
    allowed_split o a = (
      low t o,
      above t o,
      subst (λ (l : List A). Allowed m l (low t o)) low_is (allowed_part _ (p ++ rest) o a),
      subst (λ (l : List A). Allowed m l (above t o)) above_is (allowed_part _ (p ++ rest) o a),
      halves o t a.onward,
    )
