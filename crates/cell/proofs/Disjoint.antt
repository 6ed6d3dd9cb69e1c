-- No bit is set in both the value and the mask of a cell, and every rule keeps it so. Assumes nothing.
use mathlib.Core.Path.{◌≡◌, refl, sym, ap, ap₂, ◌∙◌}
use mathlib.Core.Logic.{⊎_elim}
use mathlib.Core.Bool.{Bool, true, ◌&&◌}
use Prim.Native.Nat.{ℕ, zero, suc, ◌+◌, ◌-◌, ◌*◌, ◌/◌, ◌%◌, ◌<◌, min, max}
use native.Mathlib.Nat.{eq-or-lt_of_le, le_of_suc-le-suc, not-suc-le-zero}
use native.Mathlib.Omega.{arith}
use lib.Arith.{bin_ind}
use lib.Dec.{eqb, T, eqb→eq}
use lib.Ieee.Fits.{and_l, and_r}
use lib.Bits.{bit_and, bit_or, and_step, or_step, and_shr, or_shr, and_comm, and_zero_r}
use Rattle.cell.specs.declared.Cell.{Cell}
use Rattle.cell.specs.Rules.{programmed_cell, cut_cell, erased_cell, doubtful_cell, stored_cell, not8, Disjoint}
use Rattle.law.specs.Choice.{lt_or_le}

and_half : (a b : ℕ) → bit_and a b / 2 ≡ bit_and (a / 2) (b / 2)
and_half a b = and_shr a b 1

or_half : (a b : ℕ) → bit_or a b / 2 ≡ bit_or (a / 2) (b / 2)
or_half a b = or_shr a b 1

pub and_odd : (a b : ℕ) → bit_and a b % 2 ≡ min (a % 2) (b % 2)
and_odd a b = omega (arith, and_step a b)

pub or_odd : (a b : ℕ) → bit_or a b % 2 ≡ max (a % 2) (b % 2)
or_odd a b = omega (arith, or_step a b)

pub and_assoc : (a b c : ℕ) → bit_and (bit_and a b) c ≡ bit_and a (bit_and b c)
and_assoc a =
    bin_ind (λ (n : ℕ). (b c : ℕ) → bit_and (bit_and n b) c ≡ bit_and n (bit_and b c)) (λ b c. refl)
    (λ n ih b c.
    and_step (bit_and n b) c
    ∙ ap₂ (λ (x y : ℕ). bit_and x (c / 2) * 2 + min y (c % 2)) (and_half n b) (and_odd n b)
    ∙ ap₂ (λ (x y : ℕ). x * 2 + y) (ih (b / 2) (c / 2)) (omega arith)
    ∙ sym (and_step n (bit_and b c) ∙ ap₂ (λ (x y : ℕ). bit_and (n / 2) x * 2 + min (n % 2) y) (and_half b c) (and_odd b c))) a

pub and_or : (a b c : ℕ) → bit_and a (bit_or b c) ≡ bit_or (bit_and a b) (bit_and a c)
and_or a =
    bin_ind (λ (n : ℕ). (b c : ℕ) → bit_and n (bit_or b c) ≡ bit_or (bit_and n b) (bit_and n c)) (λ b c. refl)
    (λ n ih b c.
    and_step n (bit_or b c)
    ∙ ap₂ (λ (x y : ℕ). bit_and (n / 2) x * 2 + min (n % 2) y) (or_half b c) (or_odd b c)
    ∙ ap₂ (λ (x y : ℕ). x * 2 + y) (ih (b / 2) (c / 2)) (omega arith)
    ∙ sym (or_step (bit_and n b) (bit_and n c)
    ∙ ap₂ (λ (x y : ℕ). bit_or x y * 2 + max (bit_and n b % 2) (bit_and n c % 2)) (and_half n b) (and_half n c)
    ∙ ap₂ (λ (x y : ℕ). bit_or (bit_and (n / 2) (b / 2)) (bit_and (n / 2) (c / 2)) * 2 + max x y) (and_odd n b) (and_odd n c))) a

-- parts of two numbers with no bit in common have none in common
pub apart : (v m x y : ℕ) → bit_and v m ≡ 0 → bit_and (bit_and v x) (bit_and m y) ≡ 0
apart v m x y e =
    sym (and_assoc (bit_and v x) m y)
    ∙ ap (λ (z : ℕ). bit_and z y)
    (ap (λ (z : ℕ). bit_and z m) (and_comm v x) ∙ and_assoc x v m ∙ ap (bit_and x) e ∙ and_zero_r x)

-- a byte and its complement: a test over all 256, computed
complements : ℕ → Bool
complements zero = true
complements (suc n) = eqb (bit_and n (255 - n)) 0 && complements n

complement_at : (n d : ℕ) → T (complements n) → d < n → bit_and d (255 - d) ≡ 0
unfolding complements
complement_at zero d t l = absurd (not-suc-le-zero l)
complement_at (suc n) d t l =
    let here = eqb (bit_and n (255 - n)) 0 in
    ⊎_elim (λ e. ap (λ (k : ℕ). bit_and k (255 - k)) e ∙ eqb→eq (bit_and n (255 - n)) 0 (and_l here (complements n) t))
    (λ h. complement_at n d (and_r here (complements n) t) h)
    (eq-or-lt_of_le (le_of_suc-le-suc l))

-- past a byte the complement is 0
pub complement : (d : ℕ) → bit_and d (255 - d) ≡ 0
unfolding complements
complement d =
    ⊎_elim (λ l. complement_at 256 d tt l)
    (λ l. let z : 255 - d ≡ 0 = omega arith in ap (bit_and d) z ∙ and_zero_r d)
    (lt_or_le d 256)

pub disjoint_erased : Disjoint erased_cell
unfolding Disjoint
disjoint_erased = refl

pub disjoint_doubtful : Disjoint doubtful_cell
unfolding Disjoint
disjoint_doubtful = refl

pub disjoint_stored : (d : ℕ) → Disjoint (stored_cell d)
unfolding Disjoint
disjoint_stored d = and_zero_r d

pub disjoint_programmed : (c : Cell) (d : ℕ) → Disjoint c → Disjoint (programmed_cell c d)
unfolding Disjoint
disjoint_programmed c d h = apart c.value c.mask d d h

-- no bit of v AND d is in m, and none is in v AND NOT d
pub disjoint_cut : (c : Cell) (d : ℕ) → Disjoint c → Disjoint (cut_cell c d)
unfolding Disjoint
disjoint_cut c d h =
    let n = not8 d in
    and_or (bit_and c.value d) c.mask (bit_and c.value n)
    ∙ ap₂ bit_or
    (ap (λ (x : ℕ). bit_and x c.mask) (and_comm c.value d) ∙ and_assoc d c.value c.mask ∙ ap (bit_and d) h ∙ and_zero_r d)
    (ap₂ bit_and (and_comm c.value d) (and_comm c.value n) ∙ apart d n c.value c.value (complement d))
