-- One bit of a kept byte: each rule of a cycle, whole or cut, takes the set of its possible values exactly to the set of its results (`exactly`). Where it is not marked afterwards every history has the value
-- shown (`keeps`); and with every doubt w it is what a history makes of it in which every doubt was w and w is chosen (`fills`). Assumes nothing.
use mathlib.Core.Path.{◌≡◌, refl, sym, ap, ap₂, subst, ◌∙◌}
use mathlib.Core.Bool.{Bool, true, false, not, ◌&&◌, ◌||◌}
use mathlib.Core.Logic.{◌↔◌}
use Prim.Native.Nat.{ℕ, ◌<◌}
use lib.Bits.{bit_and}
use Rattle.law.specs.Words.{pick}
use Rattle.law.specs.Choice.{true_not_false, split}
use Rattle.cell.specs.declared.Cell.{Cell}
use Rattle.cell.specs.Rules.{not8, erased_cell, doubtful_cell, stored_cell, programmed_cell, cut_cell}
use Rattle.histories.specs.History.{bit_of, Fate, stays, programs, erases, stores, old_or_new, any_value, becomes}
use Rattle.histories.proofs.Bits.{bit_and_lem, bit_or_lem, bit_not, bit_zero, bit_ff}

-- ---- the rule of a kept byte for a fate
abbrev pub cell_by : Fate → Cell → Cell
cell_by stays c = c
cell_by (programs d) c = programmed_cell c d
cell_by erases c = erased_cell
cell_by (stores d) c = stored_cell d
cell_by (old_or_new d) c = cut_cell c d
cell_by any_value c = doubtful_cell

-- a cut program's data is a byte: past one, NOT d has no bits, and a bit that may be old or new would go unmarked
abbrev pub DataByte : Fate → Type 0
DataByte stays = Unit {0}
DataByte (programs d) = Unit {0}
DataByte erases = Unit {0}
DataByte (stores d) = Unit {0}
DataByte (old_or_new d) = d < 256
DataByte any_value = Unit {0}

-- the kept byte c turns into d by the fate's rule
pub record Turns (f : Fate) (c d : Cell) : Type 0 where
  pub is : d ≡ cell_by f c
  pub byte : DataByte f

-- ---- the same of one bit: v its value, m its mark
abbrev value_bit : Fate → ℕ → Bool → Bool
value_bit stays j v = v
value_bit (programs d) j v = v && bit_of d j
value_bit erases j v = true
value_bit (stores d) j v = bit_of d j
value_bit (old_or_new d) j v = v && bit_of d j
value_bit any_value j v = false

abbrev mark_bit : Fate → ℕ → Bool → Bool → Bool
mark_bit stays j v m = m
mark_bit (programs d) j v m = m && bit_of d j
mark_bit erases j v m = false
mark_bit (stores d) j v m = false
mark_bit (old_or_new d) j v m = m || (v && not (bit_of d j))
mark_bit any_value j v m = true

module _ (c : Cell) (j : ℕ) (l : j < 8) where
  value_bit_lem : (f : Fate) → bit_of (cell_by f c).value j ≡ value_bit f j (bit_of c.value j)
  value_bit_lem stays = refl
  value_bit_lem (programs d) = bit_and_lem c.value d j
  value_bit_lem erases = bit_ff j l
  value_bit_lem (stores d) = refl
  value_bit_lem (old_or_new d) = bit_and_lem c.value d j
  value_bit_lem any_value = bit_zero j l

  mark_bit_lem : (f : Fate) → DataByte f → bit_of (cell_by f c).mask j ≡ mark_bit f j (bit_of c.value j) (bit_of c.mask j)
  mark_bit_lem stays s = refl
  mark_bit_lem (programs d) s = bit_and_lem c.mask d j
  mark_bit_lem erases s = bit_zero j l
  mark_bit_lem (stores d) s = bit_zero j l
  mark_bit_lem (old_or_new d) s =
      bit_or_lem c.mask (bit_and c.value (not8 d)) j
      ∙ ap (λ (t : Bool). bit_of c.mask j || t) (bit_and_lem c.value (not8 d) j ∙ ap (λ (t : Bool). bit_of c.value j && t) (bit_not d j s l))
  mark_bit_lem any_value s = bit_ff j l

-- ---- every history keeps to what is not marked
and_true : (x : Bool) → (x && true) ≡ x
and_true true = refl
and_true false = refl

and_false : (x : Bool) → (x && false) ≡ false
and_false true = refl
and_false false = refl

whole_keeps : (v m x d : Bool) → (m ≡ false → x ≡ v) → (m && d) ≡ false → (x && d) ≡ (v && d)
whole_keeps v true x true h k = absurd (true_not_false k)
whole_keeps v false x true h k = ap (λ (t : Bool). t && true) (h refl)
whole_keeps v m x false h k = and_false x ∙ sym (and_false v)

cut_keeps : (v m x d chosen : Bool) → (m ≡ false → x ≡ v) → (m || (v && not d)) ≡ false → pick chosen x (x && d) ≡ (v && d)
cut_keeps v true x d chosen h k = absurd (true_not_false k)
cut_keeps true false x true true h k = h refl
cut_keeps true false x true false h k = ap (λ (t : Bool). t && true) (h refl)
cut_keeps true false x false chosen h k = absurd (true_not_false k)
cut_keeps false false x d true h k = h refl
cut_keeps false false x d false h k = ap (λ (t : Bool). t && d) (h refl)

bit_keeps : (f : Fate) (j : ℕ) (v m x chosen : Bool) → (m ≡ false → x ≡ v) → mark_bit f j v m ≡ false → becomes f j chosen x ≡ value_bit f j v
bit_keeps stays j v m x chosen h k = h k
bit_keeps (programs d) j v m x chosen h k = whole_keeps v m x (bit_of d j) h k
bit_keeps erases j v m x chosen h k = refl
bit_keeps (stores d) j v m x chosen h k = refl
bit_keeps (old_or_new d) j v m x chosen h k = cut_keeps v m x (bit_of d j) chosen h k
bit_keeps any_value j v m x chosen h k = absurd (true_not_false k)

-- ---- every doubt w, and w chosen everywhere: of a cut program's bit 1 is the old, 0 the new
whole_fills : (w v m d : Bool) → (pick m w v && d) ≡ pick (m && d) w (v && d)
whole_fills w v true true = and_true w
whole_fills w v true false = and_false w ∙ sym (and_false v)
whole_fills w v false d = refl

cut_fills : (w v m d : Bool) → pick w (pick m w v) (pick m w v && d) ≡ pick (m || (v && not d)) w (v && d)
cut_fills true v true d = refl
cut_fills false v true d = refl
cut_fills true true false true = refl
cut_fills true true false false = refl
cut_fills true false false d = refl
cut_fills false true false true = refl
cut_fills false true false false = refl
cut_fills false false false d = refl

bit_fills : (f : Fate) (j : ℕ) (w v m : Bool) → becomes f j w (pick m w v) ≡ pick (mark_bit f j v m) w (value_bit f j v)
bit_fills stays j w v m = refl
bit_fills (programs d) j w v m = whole_fills w v m (bit_of d j)
bit_fills erases j w v m = refl
bit_fills (stores d) j w v m = refl
bit_fills (old_or_new d) j w v m = cut_fills w v m (bit_of d j)
bit_fills any_value j w v m = refl

-- ---- of the kept byte
-- the bit with every doubt w
abbrev pub filled_with : Bool → Cell → ℕ → Bool
filled_with w c j = pick (bit_of c.mask j) w (bit_of c.value j)

-- the values that it may have
abbrev pub May : Cell → ℕ → Bool → Type 0
May c j x = bit_of c.mask j ≡ false → x ≡ bit_of c.value j

pub filled_may : (w : Bool) (c : Cell) (j : ℕ) → May c j (filled_with w c j)
filled_may w c j e = ap (λ (t : Bool). pick t w (bit_of c.value j)) e

pub may_filled : (x : Bool) (c : Cell) (j : ℕ) → May c j x → filled_with x c j ≡ x
may_filled x c j h = split (bit_of c.mask j) (λ e. ap (λ (t : Bool). pick t x (bit_of c.value j)) e) (λ e. filled_may x c j e ∙ sym (h e))

module _ (f : Fate) (c d : Cell) (t : Turns f c d) (j : ℕ) (l : j < 8) where
  value_of : bit_of d.value j ≡ value_bit f j (bit_of c.value j)
  value_of = ap (λ (e : Cell). bit_of e.value j) t.is ∙ value_bit_lem c j l f

  mark_of : bit_of d.mask j ≡ mark_bit f j (bit_of c.value j) (bit_of c.mask j)
  mark_of = ap (λ (e : Cell). bit_of e.mask j) t.is ∙ mark_bit_lem c j l f t.byte

  pub keeps : (x chosen : Bool) → May c j x → May d j (becomes f j chosen x)
  keeps x chosen h k = bit_keeps f j (bit_of c.value j) (bit_of c.mask j) x chosen h (sym mark_of ∙ k) ∙ sym value_of

  pub fills : (w : Bool) → becomes f j w (filled_with w c j) ≡ filled_with w d j
  fills w = bit_fills f j w (bit_of c.value j) (bit_of c.mask j) ∙ ap₂ (λ (m v : Bool). pick m w v) (sym mark_of) (sym value_of)

  -- the values that it may have afterwards are exactly what the fate makes of those that it may have before
  pub exactly : (y : Bool) → May d j y ↔ ((x : Bool) × (chosen : Bool) × May c j x × (becomes f j chosen x ≡ y))
  exactly y = (
    (λ h. (filled_with y c j, y, filled_may y c j, fills y ∙ may_filled y d j h)),
    λ z. subst (May d j) z.3 (keeps z.0 z.1 z.2),
  )
