-- Putting the pages of both chips. Assumes nothing.
use mathlib.Core.Path.{◌≡◌, ap, ◌∙◌}
use mathlib.Core.List.{List}
use Prim.Native.Nat.{ℕ}
use Rattle.record.specs.declared.Chip.TheVariants.{Flash, Eeprom}
use Rattle.times.specs.declared.Touched.{Touched}
use Rattle.times.specs.Put.{pages_with, times_with}

pub both_put : (stamp : ℕ) (x : Touched) (xs ys zs : List ℕ) → ys ≡ pages_with Flash stamp x.flash xs → zs ≡ pages_with Eeprom stamp x.eeprom ys → zs ≡ times_with stamp x xs
unfolding times_with
both_put stamp x xs ys zs f e = e ∙ ap (pages_with Eeprom stamp x.eeprom) f
