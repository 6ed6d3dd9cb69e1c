-- The place after one in a page of 64, and which places so many data bytes are for.
-- Assumes nothing.
use Prim.Native.Nat.{ℕ, ◌+◌, ◌-◌, ◌%◌, ◌<◌, ◌≤◌}
use native.Mathlib.Omega.{arith}
use mathlib.Core.Path.{◌≡◌, ap, ◌∙◌}
use lib.Dec.{ltb}
use borrow.Author.Tests.{ltb-true, lt-ltb, le-ltb}
use Rattle.law.specs.Choice.{split}
use Rattle.page.specs.Geometry.{eeprom_size}
use Rattle.page.specs.Laws.{next_is, after_low}
use Rattle.eeprom.specs.Write.{next_in_page, counted, first_sent}

-- ---- the low six bits go on
pub next_low : (p : ℕ) → next_in_page p % 64 ≡ (p % 64 + 1) % 64
next_low p = ap (λ (q : ℕ). q % 64) (next_is 64 (omega arith) p) ∙ after_low 64 (omega arith) p 1

pub next_small : (p : ℕ) → p < eeprom_size → next_in_page p < eeprom_size
next_small p h = rw (next_is 64 (omega arith) p) (omega arith)

-- ---- the count and the first place, by cases
pub counted_less : (n : ℕ) → n < 64 → counted n ≡ n + 1
counted_less n h = simp (lt-ltb _ _ h)

pub counted_all : (n : ℕ) → 64 ≤ n → counted n ≡ 64
counted_all n h = simp (le-ltb _ _ h)

pub counted_small : (n : ℕ) → counted n ≤ 64
counted_small n = split (ltb n 64) (λ t. let l = ltb-true n 64 t in simp (t) (omega arith)) (λ t. simp (t) (omega arith))

pub first_less : (p n : ℕ) → n < 64 → first_sent p n ≡ (p % 64 + (64 - n)) % 64
first_less p n h = simp (lt-ltb _ _ h)

pub first_all : (p n : ℕ) → 64 ≤ n → first_sent p n ≡ 0
first_all p n h = simp (le-ltb _ _ h)

pub first_small : (p n : ℕ) → first_sent p n < 64
first_small p n = split (ltb n 64) (λ t. simp (t) (omega arith)) (λ t. simp (t) (omega arith))
