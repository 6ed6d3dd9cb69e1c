-- Data ff changes no byte, whether the program ends or is cut: so a page that is ff where nothing was sent changes only what was sent.
-- And every rule gives bytes. Assumes nothing.
use mathlib.Core.Path.{◌≡◌, ap, ◌∙◌}
use Prim.Native.Nat.{ℕ, ◌<◌}
use native.Mathlib.Nat.{mod-eq_of_lt}
use native.Mathlib.Omega.{arith}
use lib.Bits.{bit_and, bit_or, and_mask, and_zero_r, or_zero_r, and_le_l, or_lt}
use Rattle.cell.specs.declared.Cell.{Cell}
use Rattle.cell.specs.Rules.{programmed_cell, cut_cell, erased_cell, doubtful_cell, stored_cell, not8}
use Rattle.cell.specs.Bytes.{ByteCell}

-- a byte AND ff
and_ff : (x : ℕ) → x < 256 → bit_and x 255 ≡ x
and_ff x h = and_mask x 8 ∙ mod-eq_of_lt h

pub programmed_ff : (c : Cell) → ByteCell c → programmed_cell c 255 ≡ c
unfolding ByteCell
programmed_ff c h = λ i. record { value = and_ff c.value h.0 i; mask = and_ff c.mask h.1 i }

pub cut_ff : (c : Cell) → ByteCell c → cut_cell c 255 ≡ c
unfolding ByteCell
cut_ff c h =
    let m : bit_or c.mask (bit_and c.value 0) ≡ c.mask = ap (bit_or c.mask) (and_zero_r c.value) ∙ or_zero_r c.mask in
    λ i. record { value = and_ff c.value h.0 i; mask = m i }

pub byte_erased : ByteCell erased_cell
unfolding ByteCell
byte_erased = (omega arith, omega arith)

pub byte_doubtful : ByteCell doubtful_cell
unfolding ByteCell
byte_doubtful = (omega arith, omega arith)

pub byte_stored : (d : ℕ) → d < 256 → ByteCell (stored_cell d)
unfolding ByteCell
byte_stored d l = (l, omega arith)

pub byte_programmed : (c : Cell) (d : ℕ) → ByteCell c → ByteCell (programmed_cell c d)
unfolding ByteCell
byte_programmed c d h = (omega (arith, and_le_l c.value d), omega (arith, and_le_l c.mask d))

pub byte_cut : (c : Cell) (d : ℕ) → ByteCell c → ByteCell (cut_cell c d)
unfolding ByteCell
byte_cut c d h = (
  omega (arith, and_le_l c.value d),
  or_lt 8 c.mask (bit_and c.value (not8 d)) h.1 (omega (arith, and_le_l c.value (not8 d))),
)
