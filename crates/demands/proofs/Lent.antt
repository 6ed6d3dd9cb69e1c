-- Buffers that fit, with both chips erased.
use mathlib.Core.Path.{◌≡◌, ap, ◌∙◌}
use mathlib.Core.Bool.{true}
use Prim.Native.Nat.{ℕ, ◌<◌}
use native.Mathlib.Omega.{arith}
use lib.Bits.{bit_and, and_zero_r}
use lib.ListN.{get_or, replicate, length-replicate, get_or-replicate}
use Rattle.cell.specs.Rules.{erased_cell, Disjoint}
use Rattle.record.specs.declared.Chip.TheVariants.{Flash, Eeprom}
use Rattle.record.specs.Lengths.{replies_length, result_length}
use Rattle.image.specs.Image.{Image, image_of, spans, cell_at, Clean}
use Rattle.image.specs.Images.{Images, kept_bytes, Kept, AllClean}
use Rattle.image.proofs.Fitting.{lengths_span}
use Rattle.times.specs.Times.{times_length}
use Rattle.buffers.specs.Buffers.{Buffers, fit}
use Rattle.buffers.proofs.Fit.{fit_only}
use Rattle.demands.proofs.Disjoint.{zeros_at}

-- n bytes that were erased
of_erased : ℕ → Image
of_erased n = image_of (replicate n 255) (replicate n 0)

module _ (n : ℕ) where
  erased_spans : spans n (of_erased n) ≡ true
  unfolding of_erased
  erased_spans = lengths_span (of_erased n) n (length-replicate n 255) (length-replicate n 0)

  erased_at : (k : ℕ) → k < n → cell_at (of_erased n) k ≡ erased_cell
  unfolding of_erased
  erased_at k h i = record { value = get_or-replicate n k 255 0 h i; mask = get_or-replicate n k 0 0 h i }

  erased_clean : Clean (of_erased n)
  unfolding Clean Disjoint of_erased
  erased_clean k = ap (bit_and (get_or (replicate n 255) k 0)) (zeros_at n k) ∙ and_zero_r (get_or (replicate n 255) k 0)

both_erased : Images
both_erased = record { flash = of_erased (kept_bytes Flash); eeprom = of_erased (kept_bytes Eeprom) }

both_kept : Kept both_erased
unfolding both_erased
both_kept Flash = erased_spans (kept_bytes Flash)
both_kept Eeprom = erased_spans (kept_bytes Eeprom)

both_clean : AllClean both_erased
unfolding both_erased
both_clean Flash = erased_clean (kept_bytes Flash)
both_clean Eeprom = erased_clean (kept_bytes Eeprom)

pub erased : Buffers
erased = record { images = both_erased; times = replicate times_length 0; replies = replicate replies_length 0; result = replicate result_length 0 }

pub erased_fits : fit erased ≡ true
unfolding erased
erased_fits =
    fit_only erased (record {
      kept = both_kept;
      times_long = length-replicate {A = ℕ} times_length 0;
      replies_long = length-replicate {A = ℕ} replies_length 0;
      result_long = length-replicate {A = ℕ} result_length 0;
      clean = both_clean;
    })

pub erased_flash : cell_at erased.images.flash 0 ≡ erased_cell
unfolding erased both_erased
erased_flash = erased_at (kept_bytes Flash) 0 (omega arith)

pub erased_eeprom : cell_at erased.images.eeprom 0x0040 ≡ erased_cell
unfolding erased both_erased
erased_eeprom = erased_at (kept_bytes Eeprom) 0x0040 (omega arith)
