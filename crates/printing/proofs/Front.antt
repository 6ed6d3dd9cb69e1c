-- Of records whose stamps never go back, those before a stamp are the first ones: nothing in between is left out.
use Prim.Native.Nat.{ℕ, ◌≤◌}
use native.Mathlib.Omega.{arith}
use mathlib.Core.Path.{◌≡◌, refl, ap}
use mathlib.Core.Bool.{Bool, true, false}
use mathlib.Core.List.{List, [], ◌∷◌, ◌++◌}
use lib.Dec.{ltb}
use borrow.Author.Tests.{ltb-false, le-ltb}
use Rattle.law.specs.Words.{filter, keep, Rising}
use Rattle.law.specs.Lists.{all_map, filter_none}

module _ {A : Type 0} (stamp : A → ℕ) (t : ℕ) where
  abbrev pub early : List A → List A
  early rs = filter (λ (a : A). ltb (stamp a) t) rs

  front_head : (q : Bool) (a : A) (rs : List A) → ltb (stamp a) t ≡ q → Rising stamp (a ∷ rs) → (rest : List A) × (rs ≡ early rs ++ rest) → (rest : List A) × (a ∷ rs ≡ keep q a (early rs) ++ rest)
  unfolding keep Rising
  front_head true a rs e h k = (k.0, ap (λ (l : List A). a ∷ l) k.1)
  front_head false a rs e h k =
      let up : t ≤ stamp a = ltb-false _ _ e in
      (a ∷ rs, rw (filter_none (λ (b : A). ltb (stamp b) t) rs (all_map _ _ (λ b l. le-ltb (stamp b) t (omega arith)) rs h.0)))

  pub early_front : (rs : List A) → Rising stamp rs → (rest : List A) × (rs ≡ early rs ++ rest)
  unfolding filter Rising
  early_front [] h = ([], refl)
  early_front (a ∷ rs) h = front_head (ltb (stamp a) t) a rs refl h (early_front rs h.1)
