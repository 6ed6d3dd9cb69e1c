-- Of one stamp's records, an order of one channel's and the lines', with all others in front, is an allowed order of all.
use mathlib.Core.Path.{◌≡◌, refl, sym, ap, ap₂, subst, ◌∙◌}
use mathlib.Core.Bool.{Bool, true, false, not}
use mathlib.Core.List.{List, [], ◌∷◌, ◌++◌, append-nil}
use Prim.Native.Nat.{ℕ}
use Rattle.law.specs.Words.{pick, filter, keep, All}
use Rattle.tied.specs.Orders.{Order, done, bus_first, line_first}
use Rattle.tied.specs.Orders
use Rattle.law.specs.Lists.{all_filter, all_map, filter_append, filter_both, filter_all, filter_none}
use Rattle.meaning.specs.Meaning.{Channel, L, same, Rules, of, Allowed, after, replies}
use Rattle.meaning.proofs.Channels.{same_self, same_is, same_not}
use Rattle.meaning.proofs.Allowing.{In, in_channel, level, all_channels}

unfoldable pub listed : {A : Type 0} {bs ls : List A} → Order A A bs ls → List A
listed done = []
listed (bus_first {b = b} o) = b ∷ listed o
listed (line_first {l = l} o) = l ∷ listed o

-- an order as a list, played
pub listed_after : {A S R : Type 0} (m : Rules A S R) {bs ls : List A} (x : Order A A bs ls) (s : S) → after m (listed x) s ≡ Orders.after m.play m.says m.play x s
unfolding listed after Orders.after
listed_after m done s = refl
listed_after m (bus_first {b = b} x) s = listed_after m x (m.play s b)
listed_after m (line_first {l = l} x) s = listed_after m x (m.play s l)

module _ {A S R : Type 0} (m : Rules A S R) (c : Channel) where
  -- what a test on channels leaves of one channel
  module _ (q : Channel → Bool) (d : Channel) (rs : List A) where
    of_in : q d ≡ true → of m d (filter (λ (a : A). q (m.channel a)) rs) ≡ of m d rs
    of_in e = filter_both _ _ rs ∙ filter_all _ (of m d rs) (all_map _ _ (λ a i. ap q i ∙ e) _ (in_channel m d rs))

    of_out : q d ≡ false → of m d (filter (λ (a : A). q (m.channel a)) rs) ≡ []
    of_out e = filter_both _ _ rs ∙ filter_none _ (of m d rs) (all_map _ _ (λ a i. ap q i ∙ e) _ (in_channel m d rs))

  -- neither the channel's nor the lines'
  abbrev pub else : Channel → Bool
  else d = pick (same c d) false (not (same L d))

  abbrev pub others : List A → List A
  others p = filter (λ (a : A). else (m.channel a)) p

  module _ (apart : same c L ≡ false) where
    -- the two channels' records in a list that is an order of them, and no others
    listed_own : {bs ls : List A} (x : Order A A bs ls) → All (In m c) bs → All (In m L) ls → of m c (listed x) ≡ bs
    unfolding listed filter All keep
    listed_own done h k = refl
    listed_own (bus_first {b = b} x) h k = rw (h.0, same_self c) (ap (λ (l : List A). b ∷ l) (listed_own x h.1 k))
    listed_own (line_first x) h k = rw (k.0, apart) (listed_own x h k.1)

    listed_lines : {bs ls : List A} (x : Order A A bs ls) → All (In m c) bs → All (In m L) ls → of m L (listed x) ≡ ls
    unfolding listed filter All keep
    listed_lines done h k = refl
    listed_lines (bus_first x) h k = rw (h.0, same_not c L apart) (listed_lines x h.1 k)
    listed_lines (line_first {l = l} x) h k = rw k.0 (ap (λ (r : List A). l ∷ r) (listed_lines x h k.1))

    listed_else : (d : Channel) → same d c ≡ false → same d L ≡ false → {bs ls : List A} (x : Order A A bs ls) → All (In m c) bs → All (In m L) ls → of m d (listed x) ≡ []
    unfolding listed filter All keep
    listed_else d e f done h k = refl
    listed_else d e f (bus_first x) h k = rw (h.0, e) (listed_else d e f x h.1 k)
    listed_else d e f (line_first x) h k = rw (k.0, f) (listed_else d e f x h k.1)

    -- p the records of the stamp t
    module _ (p : List A) (x : Order A A (of m c p) (of m L p)) where
      kept_by : (d : Channel) (u v : Bool) → same c d ≡ u → same L d ≡ v → of m d (others p) ++ of m d (listed x) ≡ of m d p
      kept_by d true v e f =
          subst (λ (d : Channel). of m d (others p) ++ of m d (listed x) ≡ of m d p) (sym (same_is c d e))
          (ap₂ ◌++◌ (of_out else c p (rw (same_self c) refl)) (listed_own x (in_channel m c p) (in_channel m L p)))
      kept_by d false true e f =
          subst (λ (d : Channel). of m d (others p) ++ of m d (listed x) ≡ of m d p) (sym (same_is L d f))
          (ap₂ ◌++◌ (of_out else L p (rw apart refl)) (listed_lines x (in_channel m c p) (in_channel m L p)))
      kept_by d false false e f =
          ap₂ ◌++◌ (of_in else d p (rw (e, f) refl)) (listed_else d (same_not c d e) (same_not L d f) x (in_channel m c p) (in_channel m L p)) ∙ append-nil _

      kept : (d : Channel) → of m d (others p ++ listed x) ≡ of m d p
      kept d = filter_append _ (others p) (listed x) ∙ kept_by d (same c d) (same L d) refl refl

      pub in_front : (t : ℕ) → All (λ (a : A). m.stamp a ≡ t) p → Allowed m p (others p ++ listed x)
      in_front t hp = record {
        keeps = kept;
        onward = level m t _ (all_channels m _ _ (λ d. subst (All (λ (a : A). m.stamp a ≡ t)) (sym (kept d)) (all_filter _ _ p hp)));
      }

  pub listed_says : same c L ≡ false → {bs ls : List A} (x : Order A A bs ls) → All (In m c) bs → All (In m L) ls → (s : S) →
      replies m c (listed x) s ≡ Orders.replies m.play m.says m.play x s
  unfolding listed replies Orders.replies All keep
  listed_says apart done h k s = refl
  listed_says apart (bus_first {b = b} x) h k s = rw (h.0, same_self c) (ap (λ (l : List R). m.says s b ∷ l) (listed_says apart x h.1 k (m.play s b)))
  listed_says apart (line_first {l = l} x) h k s = rw (k.0, apart) (listed_says apart x h k.1 (m.play s l))
