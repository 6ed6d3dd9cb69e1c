-- What a list cannot do without, in the words of the counting: without a chip erase, and with one. Where nothing differs in a locked sector these are the plans' numbers.
use mathlib.Core.Path.{◌≡◌, refl, sym, ap, ◌∙◌}
use mathlib.Core.Bool.{true, false}
use mathlib.Core.List.{List}
use Prim.Native.Nat.{ℕ, suc, ◌+◌, ◌<◌}
use native.Mathlib.Omega.{arith}
use Rattle.law.specs.Words.{pick}
use Rattle.law.specs.Choice.{split}
use Rattle.flash.specs.Code.{sector_locked}
use Rattle.page.specs.Geometry.{flash_sectors}
use Rattle.fewest.specs.declared.Test.TheVariants.{Differs, Rises, Unblank}
use Rattle.fewest.specs.Below.{sum_below, one, sum_same, sum_plus}
use Rattle.fewest.specs.Plan.{in_sector, pages_of, erases_in, test_in, programs_in}

module _ (present wanted : List ℕ) where
  -- a sector where a bit has to rise takes its erase and each page that is not all ff, another the pages that differ
  abbrev pub sector_cost : ℕ → ℕ
  sector_cost s = pick (in_sector present wanted Rises s) (1 + pages_of present wanted Unblank s) (pages_of present wanted Differs s)

  unfoldable pub cost_by_sectors : ℕ
  cost_by_sectors = sum_below flash_sectors sector_cost

  module _ (status : ℕ) where
    -- the chip's erase, and each page of the unlocked sectors that is not all ff
    abbrev pub unlocked_cost : ℕ → ℕ
    unlocked_cost s = pick (sector_locked status (suc s)) 0 (pages_of present wanted Unblank s)

    unfoldable pub cost_by_chip : ℕ
    cost_by_chip = 1 + sum_below flash_sectors unlocked_cost

    pub cost_sectors : erases_in present wanted false + programs_in present wanted status false ≡ cost_by_sectors
    unfolding erases_in programs_in cost_by_sectors
    cost_sectors =
        sym (sum_plus flash_sectors (λ s. one (in_sector present wanted Rises s)) (λ s. pages_of present wanted (test_in present wanted status false s) s))
        ∙ sum_same flash_sectors (λ s. one (in_sector present wanted Rises s) + pages_of present wanted (test_in present wanted status false s) s) sector_cost
        (λ s l. split (in_sector present wanted Rises s) (λ t. rw t refl) (λ t. rw t (omega arith)))

    -- in a locked sector nothing differs
    pub cost_chip : ((s : ℕ) → s < flash_sectors → sector_locked status (suc s) ≡ true → pages_of present wanted Differs s ≡ 0) → erases_in present wanted true + programs_in present wanted status true ≡ cost_by_chip
    unfolding erases_in programs_in cost_by_chip
    cost_chip none =
        ap (λ (x : ℕ). 1 + x)
        (sum_same flash_sectors (λ s. pages_of present wanted (test_in present wanted status true s) s) unlocked_cost
        (λ s l. split (sector_locked status (suc s)) (λ t. rw t (none s l t)) (λ t. rw t refl)))
