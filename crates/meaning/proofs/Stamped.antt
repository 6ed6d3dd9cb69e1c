-- The stamp at which a replay stops is the stamp of a record: without such a record the records so far are those by the stamp before, and the reason held there already.
use mathlib.Core.Path.{◌≡◌, refl, sym, subst, ap₂}
use mathlib.Core.Bool.{Bool, true, false}
use mathlib.Core.List.{List, [], ◌∷◌}
use Prim.Native.Nat.{ℕ, zero, suc, ◌≤◌, ◌<◌}
use native.Mathlib.Omega.{arith}
use lib.Dec.{leb, eqb}
use borrow.Author.Tests.{leb-true, leb-false, eqb-false, le-leb, lt-leb}
use Rattle.law.specs.Lists.{filter_none, all_map}
use Rattle.law.specs.Words.{filter, keep, All}
use Rattle.meaning.specs.Meaning.{Rules, Reason, crowded, differ, lost, Allowed, Alike, upto, at, Differ, Lost, Holds, Passes, Earliest}
use Rattle.meaning.proofs.Steps.{first_holds, nothing_passes, not_crowded_nothing}

module _ {A S R : Type 0} (m : Rules A S R) where
  drop_kept : (b : Bool) (a : A) (l : List A) {P : Type 0} → keep b a l ≡ [] → (b ≡ false → l ≡ [] → P) → P
  unfolding keep
  drop_kept true a l e f = let z : ◌≡◌ {A = ℕ} 0 1 = cc in absurd (omega arith)
  drop_kept false a l e f = f refl e

  -- none has the stamp: each is off it
  none_at : (t : ℕ) (rs : List A) → at m t rs ≡ [] → All (λ (a : A). m.stamp a ≡ t → ⊥) rs
  unfolding filter All
  none_at t [] e = tt
  none_at t (a ∷ rs) e = drop_kept (eqb (m.stamp a) t) a (at m t rs) e (λ b k. (eqb-false _ _ b, none_at t rs k))

  leb_off : (n u : ℕ) → (n ≡ suc u → ⊥) → (b : Bool) → leb n u ≡ b → leb n (suc u) ≡ b
  leb_off n u h true e = let k : n ≤ u = leb-true n u e in le-leb n (suc u) (omega arith)
  leb_off n u h false e = let k : u < n = leb-false n u e in lt-leb n (suc u) (omega arith)

  same_upto : (u : ℕ) (rs : List A) → All (λ (a : A). m.stamp a ≡ suc u → ⊥) rs → upto m (suc u) rs ≡ upto m u rs
  unfolding filter All
  same_upto u [] h = refl
  same_upto u (a ∷ rs) h = ap₂ (λ (b : Bool) (l : List A). keep b a l) (leb_off (m.stamp a) u h.0 _ refl) (same_upto u rs h.1)

  none_zero : (rs : List A) → All (λ (a : A). m.stamp a ≡ 0 → ⊥) rs → upto m 0 rs ≡ []
  none_zero rs h = filter_none _ rs (all_map _ _ (λ a n. lt-leb (m.stamp a) 0 (omega arith)) rs h)

  earlier : (rs : List A) (s : S) (n : Reason) (u : ℕ) → at m (suc u) rs ≡ [] → Holds m rs s n (suc u) → Holds m rs s n u
  unfolding Holds Differ Lost
  earlier rs s crowded u e h = absurd (not_crowded_nothing m rs (suc u) e h)
  earlier rs s differ u e h = λ a. h (subst (λ (l : List A). Alike m l s) (sym (same_upto u rs (none_at (suc u) rs e))) a)
  earlier rs s lost u e h = (h.0, subst (λ (l : List A). Allowed m l h.0) (same_upto u rs (none_at (suc u) rs e)) h.1, h.2)

  pub stamped : (rs : List A) (s : S) → m.lost s ≡ false → (n : Reason) (t : ℕ) → Earliest m rs s n t → at m t rs ≡ [] → ⊥
  unfolding Passes
  stamped rs s k n zero h e = nothing_passes m rs s 0 k e (none_zero rs (none_at 0 rs e)) n (first_holds m rs s n 0 h.here)
  stamped rs s k n (suc u) h e = h.none_before u (omega arith) n (earlier rs s n u e (first_holds m rs s n (suc u) h.here))
