-- No bit is set in both: all places joined, and what the test says of every place. Assumes nothing.
use mathlib.Core.Path.{◌≡◌, refl, sym, ap, ◌∙◌}
use mathlib.Core.Bool.{Bool, true, false}
use mathlib.Core.List.{List, [], ◌∷◌}
use Prim.Native.Nat.{ℕ, zero, suc}
use native.Mathlib.Omega.{arith}
use borrow.Author.Tests.{eq-eqb, eqb-true, ne_eqb}
use lib.Bits.{bit_and, bit_or, and_zero_l, and_zero_r}
use lib.Dec.{eqb}
use lib.ListN.{get_or}
use Rattle.std.specs.List.{fold, zip}
use Rattle.std.proofs.lemmas.Nat.{le_or_l}
use Rattle.law.specs.Choice.{both}
use Rattle.law.specs.Words.{pick}
use Rattle.cell.specs.Rules.{Disjoint}
use Rattle.image.specs.Image.{Image, Clean}
use Rattle.buffers.specs.Buffers.{clear}

-- a number joined with another is 0 where both are
or_zero : (a x : ℕ) → eqb (bit_or a x) 0 ≡ pick (eqb a 0) (eqb x 0) false
or_zero zero x = refl
or_zero (suc a) x =
    ne_eqb (bit_or (suc a) x) 0 (omega (arith, le_or_l (suc a) x))
    ∙ ap (λ (t : Bool). pick t (eqb x 0) false) (sym (ne_eqb (suc a) 0 (omega arith)))

either : (s t r : Bool) → pick (pick s t false) r false ≡ pick s (pick t r false) false
either true t r = refl
either false t r = refl

alone : (t : Bool) → t ≡ pick t true false
alone true = refl
alone false = refl

-- what is set in both at any place, joined to what was seen before
abbrev pub set_in_both : ℕ → List (ℕ × ℕ) → ℕ
set_in_both a pairs = fold (λ seen p. bit_or seen (bit_and p.0 p.1)) a pairs

joined : (a : ℕ) (vs ms : List ℕ) → eqb (set_in_both a (zip vs ms)) 0 ≡ pick (eqb a 0) (clear vs ms) false
unfolding clear
joined a [] ms = alone (eqb a 0)
joined a (v ∷ vs) [] = alone (eqb a 0)
joined a (v ∷ vs) (m ∷ ms) =
    joined (bit_or a (bit_and v m)) vs ms
    ∙ ap (λ (t : Bool). pick t (clear vs ms) false) (or_zero a (bit_and v m))
    ∙ either (eqb a 0) (eqb (bit_and v m) 0) (clear vs ms)

pub set_nowhere : (vs ms : List ℕ) → eqb (set_in_both 0 (zip vs ms)) 0 ≡ clear vs ms
set_nowhere = joined 0

-- at every place, also past the ends
pub clear_at : (vs ms : List ℕ) → clear vs ms ≡ true → (k : ℕ) → bit_and (get_or vs k 0) (get_or ms k 0) ≡ 0
unfolding clear
clear_at [] ms e k = and_zero_l (get_or ms k 0)
clear_at (v ∷ vs) [] e k = and_zero_r (get_or (v ∷ vs) k 0)
clear_at (v ∷ vs) (m ∷ ms) e zero = eqb-true _ _ (both (eqb (bit_and v m) 0) (clear vs ms) e).0
clear_at (v ∷ vs) (m ∷ ms) e (suc k) = clear_at vs ms (both (eqb (bit_and v m) 0) (clear vs ms) e).1 k

pub at_clear : (vs ms : List ℕ) → ((k : ℕ) → bit_and (get_or vs k 0) (get_or ms k 0) ≡ 0) → clear vs ms ≡ true
unfolding clear
at_clear [] ms h = refl
at_clear (v ∷ vs) [] h = refl
at_clear (v ∷ vs) (m ∷ ms) h =
    ap (λ (t : Bool). pick t (clear vs ms) false) (eq-eqb _ _ (h 0)) ∙ at_clear vs ms (λ k. h (suc k))

-- so the test says exactly that a doubtful bit is 0 in the value
module _ (i : Image) where
  pub clear_clean : clear i.values i.masks ≡ true → Clean i
  unfolding Clean Disjoint
  clear_clean e = clear_at i.values i.masks e

  pub clean_clear : Clean i → clear i.values i.masks ≡ true
  unfolding Clean Disjoint
  clean_clear h = at_clear i.values i.masks h
