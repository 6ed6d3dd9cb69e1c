-- Two machines over the same records, the second what `see` shows of the first. Where, of the records of one stamp, the same orders end alike on both, both stop at the same stamp for the same reason:
-- where all stamps before pass, the records before a stamp end in one way on each, and its own records decide.
use mathlib.Core.Path.{◌≡◌, refl, sym, ap, subst, ◌∙◌}
use mathlib.Core.Bool.{Bool}
use mathlib.Core.Logic.Iff
use mathlib.Core.Logic.{◌↔◌, ⊎_elim}
use mathlib.Core.List.{List, [], ◌∷◌, ◌++◌}
use Prim.Native.Nat.{ℕ, zero, suc, ◌≤◌, ◌<◌}
use native.Mathlib.Omega.{arith}
use borrow.Author.Tests.{leb-true, le-leb, ltb-true}
use Rattle.law.specs.Choice.{lt_or_le}
use Rattle.law.specs.Lists.{all_map, all_filter, all_pass, filter_both, filter_all}
use Rattle.law.specs.Words.{All}
use Rattle.meaning.specs.Meaning.{Rules, Reason, crowded, differ, lost, NeverBack, Allowed, after, outcome, upto, Alike, Crowded, Differ, Lost, Holds, FirstReason, Passes, Earliest}
use Rattle.meaning.proofs.Allowing.{itself, back_filter, above, halves}
use Rattle.meaning.proofs.Steps.{alike_on, on_alike}

all_both : {A : Type 0} (P Q : A → Type 0) (l : List A) → All P l → All Q l → All (λ a. P a × Q a) l
unfolding All
all_both P Q [] h k = tt
all_both P Q (a ∷ l) h k = ((h.0, k.0), all_both P Q l h.1 k.1)

-- what holds below a stamp, and at it
module _ {P : ℕ → Type 0} (t : ℕ) where
  less : ((u : ℕ) → u < suc t → P u) → (u : ℕ) → u < t → P u
  less h u l = h u (omega arith)

  one_more : ((u : ℕ) → u < t → P u) → P t → (u : ℕ) → u < suc t → P u
  one_more h p u l = ⊎_elim (λ k. h u k) (λ k. let e : t ≡ u = omega arith in subst P e p) (lt_or_le u t)

module _ {A S R : Type 0} (m : Rules A S R) (rs : List A) (back : NeverBack m rs) (u : ℕ) where
  -- the records by a stamp are those by the stamp before it, and then its own
  abbrev next : List A
  next = above m u (upto m (suc u) rs)

  by_before : All (λ (a : A). m.stamp a ≤ u) (upto m u rs)
  by_before = all_pass _ _ (λ a e. leb-true (m.stamp a) u e) rs

  parted : upto m (suc u) rs ≡ upto m u rs ++ next
  parted =
      halves m (upto m (suc u) rs) u (back_filter m _ rs back)
      ∙ ap (λ (l : List A). l ++ next) (filter_both _ _ rs ∙ filter_all _ _ (all_map _ _ (λ a l. le-leb (m.stamp a) (suc u) (omega arith)) _ by_before))

  next_above : All (λ (a : A). u < m.stamp a) next
  next_above = all_pass _ _ (λ a e. ltb-true u (m.stamp a) e) (upto m (suc u) rs)

  next_stamp : All (λ (a : A). m.stamp a ≡ suc u) next
  next_stamp =
      all_map _ _ (λ a h. let x = h.0 in let y = h.1 in omega arith) next
      (all_both (λ (a : A). u < m.stamp a) (λ (a : A). m.stamp a ≤ suc u) next next_above
      (all_filter _ _ (upto m (suc u) rs) (all_pass _ _ (λ a e. leb-true (m.stamp a) (suc u) e) rs)))

  -- so where those before end alike, all do exactly where its own do
  alike_next : (s : S) → Alike m (upto m u rs) s → Alike m (upto m (suc u) rs) s ↔ Alike m next (after m (upto m u rs) s)
  alike_next s h =
      let it = itself m (upto m u rs) (back_filter m _ rs back) in (
        (λ k. on_alike m _ u by_before s h _ it next next_above (subst (λ (l : List A). Alike m l s) parted k)),
        λ k. subst (λ (l : List A). Alike m l s) (sym parted) (alike_on m _ u by_before s h _ it next next_above k),
      )

module _ {A S R T K : Type 0} (m : Rules A S R) (play : T → A → T) (says : T → A → K) (gone : T → Bool) where
  -- the second machine has the first one's channels and stamps
  abbrev pub other : Rules A T K
  other = record { channel = m.channel; stamp = m.stamp; play = play; says = says; lost = gone }

  pub allowed : {rs o : List A} → Allowed m rs o ↔ Allowed other rs o
  allowed = ((λ a. record { keeps = a.keeps; onward = a.onward }), λ a. record { keeps = a.keeps; onward = a.onward })

  -- orders that end alike pair by pair
  pub same_alike : (p : List A) (s : S) (w : T) → ((o q : List A) → Allowed m p o → Allowed m p q → (outcome m o s ≡ outcome m q s) ↔ (outcome other o w ≡ outcome other q w)) → Alike m p s ↔ Alike other p w
  unfolding Alike
  same_alike p s w h = (
    (λ k o q a b. (h o q (allowed.1 a) (allowed.1 b)).0 (k o q (allowed.1 a) (allowed.1 b))),
    λ k o q a b. (h o q a b).1 (k o q (allowed.0 a) (allowed.0 b)),
  )

  module _ (see : S → T) (plays : (s : S) (a : A) → see (m.play s a) ≡ play (see s) a) where
    pub see_after : (o : List A) (s : S) → see (after m o s) ≡ after other o (see s)
    unfolding after
    see_after [] s = refl
    see_after (a ∷ o) s = see_after o (m.play s a) ∙ ap (after other o) (plays s a)

    module _ (loses : (s : S) → m.lost s ≡ gone (see s)) (Good : S → Type 0) (good : (s : S) (a : A) → Good s → Good (m.play s a))
        (pairs : (t : ℕ) (p : List A) → All (λ (a : A). m.stamp a ≡ t) p → (s : S) → Good s → (o q : List A) → Allowed m p o → Allowed m p q → (outcome m o s ≡ outcome m q s) ↔ (outcome other o (see s) ≡ outcome other q (see s))) where
      good_after : (o : List A) (s : S) → Good s → Good (after m o s)
      unfolding after
      good_after [] s g = g
      good_after (a ∷ o) s g = good_after o (m.play s a) (good s a g)

      one_stamp : (t : ℕ) (p : List A) → All (λ (a : A). m.stamp a ≡ t) p → (s : S) → Good s → Alike m p s ↔ Alike other p (see s)
      one_stamp t p hp s g = same_alike p s (see s) (pairs t p hp s g)

      module _ (rs : List A) (back : NeverBack m rs) (s : S) (g : Good s) where
        -- all stamps below t pass
        abbrev Before : ℕ → Type 0
        Before t = (u : ℕ) → u < t → Passes m rs s u

        abbrev SeenBefore : ℕ → Type 0
        SeenBefore t = (u : ℕ) → u < t → Passes other rs (see s) u

        alike_same : (u : ℕ) → Alike m (upto m u rs) s → Alike other (upto m u rs) (see s) → Alike m (upto m (suc u) rs) s ↔ Alike other (upto m (suc u) rs) (see s)
        alike_same u h k =
            Iff.trans (alike_next m rs back u s h)
            (Iff.trans (one_stamp (suc u) (next m rs back u) (next_stamp m rs back u) (after m (upto m u rs) s) (good_after _ s g))
            (subst (λ (w : T). Alike other (next m rs back u) w ↔ Alike other (upto m (suc u) rs) (see s)) (sym (see_after (upto m u rs) s)) (Iff.symm (alike_next other rs back u (see s) k))))

        -- a stamp that passes says only that its orders are not unlike, which is enough where `Differ` is compared
        differs : (t : ℕ) → Before t → SeenBefore t → Differ m rs s t ↔ Differ other rs (see s) t
        unfolding Differ Passes Holds
        differs zero h k = Iff.not (one_stamp 0 (upto m 0 rs) (all_pass _ _ (λ a e. let l = leb-true (m.stamp a) 0 e in omega arith) rs) s g)
        differs (suc u) h k = (
          (λ d e. h u (omega arith) differ (λ a. k u (omega arith) differ (λ c. d ((alike_same u a c).1 e)))),
          λ d e. h u (omega arith) differ (λ a. k u (omega arith) differ (λ c. d ((alike_same u a c).0 e))),
        )

        crowds : (t : ℕ) → Crowded m rs t ↔ Crowded other rs t
        unfolding Crowded
        crowds t = Iff.rfl

        lost_as : (o : List A) → m.lost (after m o s) ≡ gone (after other o (see s))
        lost_as o = loses (after m o s) ∙ ap gone (see_after o s)

        loss : (t : ℕ) → Lost m rs s t ↔ Lost other rs (see s) t
        unfolding Lost
        loss t = ((λ h. (h.0, allowed.0 h.1, sym (lost_as h.0) ∙ h.2)), λ h. (h.0, allowed.1 h.1, lost_as h.0 ∙ h.2))

        module _ (t : ℕ) (h : Before t) (k : SeenBefore t) where
          holds : (r : Reason) → Holds m rs s r t ↔ Holds other rs (see s) r t
          unfolding Holds
          holds crowded = crowds t
          holds differ = differs t h k
          holds lost = loss t

          first : (r : Reason) → FirstReason m rs s r t ↔ FirstReason other rs (see s) r t
          unfolding FirstReason
          first crowded = crowds t
          first differ = Iff.and (Iff.not (crowds t)) (differs t h k)
          first lost =
              let c = Iff.not (crowds t) in
              let d = Iff.not (differs t h k) in
              ((λ y. (c.0 y.0, d.0 y.1, (loss t).0 y.2)), λ y. (c.1 y.0, d.1 y.1, (loss t).1 y.2))

          passes : Passes m rs s t ↔ Passes other rs (see s) t
          unfolding Passes
          passes = ((λ f r y. f r ((holds r).1 y)), λ f r y. f r ((holds r).0 y))

        -- by induction on the stamp
        same_before : (t : ℕ) → Before t ↔ SeenBefore t
        same_before zero = ((λ h u l. absurd (omega arith)), λ h u l. absurd (omega arith))
        same_before (suc t) = (
          (λ h. let k = (same_before t).0 (less t h) in one_more t k ((passes t (less t h) k).0 (h t (omega arith)))),
          λ h. let k = (same_before t).1 (less t h) in one_more t k ((passes t k (less t h)).1 (h t (omega arith))),
        )

        pub same_settled : ((t : ℕ) → Passes m rs s t) ↔ ((t : ℕ) → Passes other rs (see s) t)
        same_settled = (
          (λ h t. (same_before (suc t)).0 (λ u l. h u) t (omega arith)),
          λ h t. (same_before (suc t)).1 (λ u l. h u) t (omega arith),
        )

        pub same_earliest : (r : Reason) (t : ℕ) → Earliest m rs s r t ↔ Earliest other rs (see s) r t
        same_earliest r t = (
          (λ h. let k = (same_before t).0 h.none_before in record { here = (first t h.none_before k r).0 h.here; none_before = k }),
          λ h. let k = (same_before t).1 h.none_before in record { here = (first t k h.none_before r).1 h.here; none_before = k },
        )
