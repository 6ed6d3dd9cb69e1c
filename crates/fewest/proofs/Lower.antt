-- No list that yields the wanted content takes fewer cycles than the plan's cost.
use mathlib.Core.Path.{◌≡◌, refl, sym, ap, ◌∙◌, subst}
use mathlib.Core.Bool.{Bool, true, false}
use mathlib.Core.Logic.{◌⊎◌, ⊎_elim}
use mathlib.Core.List.{List}
use Prim.Native.Nat.{ℕ, suc, ◌+◌, ◌*◌, ◌≤◌, ◌<◌}
use native.Mathlib.Omega.{arith}
use lib.Bits.{bit_and}
use lib.ListN.{get_or}
use Rattle.law.specs.Words.{pick}
use Rattle.law.specs.Choice.{split, true_not_false}
use Rattle.flash.specs.Code.{sector_locked}
use Rattle.page.specs.Geometry.{flash_page, flash_sector, flash_size, flash_sectors, sector_pages, chip_pages}
use Rattle.fewest.specs.declared.Test.TheVariants.{Differs, Rises, Unblank}
use Rattle.fewest.specs.Below.{sum_below, count_below, one, count_tight, same_flag}
use Rattle.fewest.specs.Entries.{Entry, Yields, byte_after_all, cycles, has}
use Rattle.fewest.specs.Plan.{in_page, in_sector}
use Rattle.fewest.proofs.Costs.{sector_cost, cost_by_sectors, cost_by_chip}
use Rattle.fewest.proofs.Traces.{programs_page, erases_sector, erases_chip, clears, clears_if_sector, clears_if_chip, sector_or_chip, has_if, has_either, stays, blanked, falls}
use Rattle.fewest.proofs.Counting.{kinds, kinds_le, without_chip, with_chip, only_erased, only_programmed, only_unlocked}
use Rattle.fewest.proofs.Facts.{page_of_place, sector_of_place, falls_unblank, some_in, none_in, any_in_lem, differs, rises, unblank}

module _ (status : ℕ) (present wanted : List ℕ) (bytes : (k : ℕ) → get_or present k 0 < 256)
    (os : List Entry) (yields : Yields status present wanted os) where
  -- what the list does
  abbrev programmed : ℕ → Bool
  programmed n = has (programs_page status n) os

  abbrev erased : ℕ → Bool
  erased s = has (erases_sector status (suc s)) os

  abbrev by_erase : Bool
  by_erase = has (erases_chip status) os

  abbrev cleared : ℕ → Bool
  cleared s = has (clears status s) os

  ends : (k : ℕ) → k < flash_size → byte_after_all status os k (get_or present k 0) ≡ get_or wanted k 0
  unfolding Yields
  ends k l = yields k l

  by_which : (s : ℕ) → cleared (suc s) ≡ true → (erased s ≡ true) ⊎ (by_erase ≡ true)
  by_which s t = has_either (clears status (suc s)) (erases_sector status (suc s)) (erases_chip status) (sector_or_chip status (suc s)) os t

  -- a page that is not all ff, in a sector that was erased, was programmed
  after_erase : (s j : ℕ) → s < flash_sectors → j < sector_pages → cleared (suc s) ≡ true → in_page present wanted Unblank (sector_pages * s + j) ≡ true → programmed (sector_pages * s + j) ≡ true
  after_erase s j ls lj c u =
      let r = some_in present wanted Unblank (flash_page * (sector_pages * s + j)) flash_page u in
      let k = r.0 in
      let e = page_of_place (sector_pages * s + j) k r.1 r.2 in
      let f = sector_of_place s k ls (omega (arith, r.1, r.2)) (omega (arith, r.1, r.2)) in
      split (programmed (sector_pages * s + j)) (λ t. t)
      (λ t.
      absurd (unblank present wanted k r.3
      (sym (ends k (omega (arith, r.1, r.2)))
      ∙ blanked status os k (get_or present k 0) (ap programmed e ∙ t) (ap cleared f ∙ c))))

  -- a page that differs, in a sector that was not erased, was programmed
  without_erase : (s j : ℕ) → s < flash_sectors → j < sector_pages → cleared (suc s) ≡ false → in_page present wanted Differs (sector_pages * s + j) ≡ true → programmed (sector_pages * s + j) ≡ true
  without_erase s j ls lj c u =
      let r = some_in present wanted Differs (flash_page * (sector_pages * s + j)) flash_page u in
      let k = r.0 in
      let e = page_of_place (sector_pages * s + j) k r.1 r.2 in
      let f = sector_of_place s k ls (omega (arith, r.1, r.2)) (omega (arith, r.1, r.2)) in
      split (programmed (sector_pages * s + j)) (λ t. t)
      (λ t.
      absurd (differs present wanted k r.3
      (sym (stays status os k (get_or present k 0) (ap programmed e ∙ t) (ap cleared f ∙ c))
      ∙ ends k (omega (arith, r.1, r.2)))))

  -- a sector where a bit has to rise was erased
  rise_erased : (s : ℕ) → s < flash_sectors → in_sector present wanted Rises s ≡ true → cleared (suc s) ≡ true
  rise_erased s ls u =
      let r = some_in present wanted Rises (flash_sector * s) flash_sector u in
      let k = r.0 in
      let f = sector_of_place s k ls r.1 r.2 in
      split (cleared (suc s)) (λ t. t)
      (λ t.
      absurd (rises present wanted k r.3
      (subst (λ (w : ℕ). bit_and (get_or present k 0) w ≡ w) (ends k (omega (arith, r.1, r.2)))
      (falls status os k (get_or present k 0) (ap cleared f ∙ t)))))

  -- where no bit has to rise in the sector, a page that differs is not all ff
  differs_unblank : (s j : ℕ) → s < flash_sectors → j < sector_pages → in_sector present wanted Rises s ≡ false → in_page present wanted Differs (sector_pages * s + j) ≡ true
      → in_page present wanted Unblank (sector_pages * s + j) ≡ true
  differs_unblank s j ls lj c u =
      let r = some_in present wanted Differs (flash_page * (sector_pages * s + j)) flash_page u in
      let k = r.0 in
      let n = none_in present wanted Rises (flash_sector * s) flash_sector k c (omega (arith, r.1, r.2)) (omega (arith, r.1, r.2)) in
      any_in_lem present wanted Unblank (flash_page * (sector_pages * s + j)) flash_page k r.1 r.2
      (falls_unblank (get_or present k 0) (get_or wanted k 0) (bytes k) n r.3)

  erased_clears : (s : ℕ) → erased s ≡ true → cleared (suc s) ≡ true
  erased_clears s t = has_if (erases_sector status (suc s)) (clears status (suc s)) (clears_if_sector status (suc s)) os t

  -- ---- without a chip erase

  module _ (none : by_erase ≡ false) where
    by_sector : (s : ℕ) → cleared (suc s) ≡ true → erased s ≡ true
    by_sector s c = ⊎_elim (λ e. e) (λ e. absurd (true_not_false (sym e ∙ none))) (by_which s c)

    not_cleared : (s : ℕ) → erased s ≡ false → cleared (suc s) ≡ false
    not_cleared s e = split (cleared (suc s)) (λ t. absurd (true_not_false (sym (by_sector s t) ∙ e))) (λ t. t)

    rise : (s : ℕ) → s < flash_sectors → in_sector present wanted Rises s ≡ true → erased s ≡ true
    rise s l r = by_sector s (rise_erased s l r)

    after_sector : (s j : ℕ) → s < flash_sectors → j < sector_pages → erased s ≡ true → in_page present wanted Unblank (sector_pages * s + j) ≡ true → programmed (sector_pages * s + j) ≡ true
    after_sector s j ls lj e u = after_erase s j ls lj (erased_clears s e) u

    not_erased : (s j : ℕ) → s < flash_sectors → j < sector_pages → erased s ≡ false → in_page present wanted Differs (sector_pages * s + j) ≡ true → programmed (sector_pages * s + j) ≡ true
    not_erased s j ls lj e d = without_erase s j ls lj (not_cleared s e) d

    pub at_least_sectors : cost_by_sectors present wanted ≤ cycles status os
    unfolding cost_by_sectors kinds
    at_least_sectors =
        omega (
          arith,
          kinds_le status chip_pages flash_sectors os,
          without_chip sector_pages flash_sectors programmed erased (in_sector present wanted Rises) (in_page present wanted Unblank) (in_page present wanted Differs) (λ s. sector_locked status (suc s))
              rise after_sector not_erased differs_unblank,
        )

    -- a list that takes no more erases and programs what the plan does
    module _ (few : cycles status os ≤ cost_by_sectors present wanted) where
      tight : count_below chip_pages programmed + count_below flash_sectors erased ≤ sum_below flash_sectors (sector_cost present wanted)
      unfolding cost_by_sectors kinds
      tight = omega (arith, kinds_le status chip_pages flash_sectors os, few)

      pub sectors_erased : (s : ℕ) → s < flash_sectors → erased s ≡ in_sector present wanted Rises s
      sectors_erased =
          only_erased sector_pages flash_sectors programmed erased (in_sector present wanted Rises) (in_page present wanted Unblank) (in_page present wanted Differs) (λ s. sector_locked status (suc s))
          rise after_sector not_erased differs_unblank tight

      pub sectors_programmed : (s j : ℕ) → s < flash_sectors → j < sector_pages
          → programmed (sector_pages * s + j) ≡ pick (in_sector present wanted Rises s) (in_page present wanted Unblank (sector_pages * s + j)) (in_page present wanted Differs (sector_pages * s + j))
      sectors_programmed =
          only_programmed sector_pages flash_sectors programmed erased (in_sector present wanted Rises) (in_page present wanted Unblank) (in_page present wanted Differs) (λ s. sector_locked status (suc s))
          rise after_sector not_erased differs_unblank tight

  -- ---- with one

  module _ (some : by_erase ≡ true) where
    reached : (s j : ℕ) → s < flash_sectors → j < sector_pages → sector_locked status (suc s) ≡ false → in_page present wanted Unblank (sector_pages * s + j) ≡ true → programmed (sector_pages * s + j) ≡ true
    reached s j ls lj u n = after_erase s j ls lj (has_if (erases_chip status) (clears status (suc s)) (clears_if_chip status (suc s) u) os some) n

    counted : one by_erase ≡ 1
    counted = rw some refl

    pub at_least_chip : cost_by_chip present wanted status ≤ cycles status os
    unfolding cost_by_chip kinds
    at_least_chip =
        omega (
          arith,
          kinds_le status chip_pages flash_sectors os,
          counted,
          with_chip sector_pages flash_sectors programmed erased (in_sector present wanted Rises) (in_page present wanted Unblank) (in_page present wanted Differs) (λ s. sector_locked status (suc s)) reached,
        )

    module _ (few : cycles status os ≤ cost_by_chip present wanted status) where
      pub chip_programmed : (s j : ℕ) → s < flash_sectors → j < sector_pages → programmed (sector_pages * s + j) ≡ pick (sector_locked status (suc s)) false (in_page present wanted Unblank (sector_pages * s + j))
      unfolding cost_by_chip kinds
      chip_programmed =
          only_unlocked sector_pages flash_sectors programmed erased (in_sector present wanted Rises) (in_page present wanted Unblank) (in_page present wanted Differs) (λ s. sector_locked status (suc s)) reached
          (omega (arith, kinds_le status chip_pages flash_sectors os, counted, few))

      pub chip_erased_lem : (s : ℕ) → s < flash_sectors → erased s ≡ false
      unfolding cost_by_chip kinds
      chip_erased_lem s l =
          let no : count_below flash_sectors erased ≤ count_below flash_sectors (λ i. false) =
          omega (
            arith,
            kinds_le status chip_pages flash_sectors os,
            counted,
            few,
            with_chip sector_pages flash_sectors programmed erased (in_sector present wanted Rises) (in_page present wanted Unblank) (in_page present wanted Differs) (λ s. sector_locked status (suc s)) reached,
          ) in
          same_flag (erased s) false
          (count_tight flash_sectors (λ i. false) erased (λ i b e. absurd (true_not_false (sym e))) no s l)
          (λ e. absurd (true_not_false (sym e)))
