-- The plan is the fewest, in the stated order; and refusal 15 has exact grounds.
use mathlib.Core.Path.{◌≡◌, refl, sym, ap, ◌∙◌}
use mathlib.Core.Bool.{Bool, true, false}
use mathlib.Core.List.{List}
use Prim.Native.Nat.{ℕ, suc, ◌+◌, ◌*◌, ◌/◌, ◌≤◌, ◌<◌}
use native.Mathlib.Omega.{arith}
use lib.ListN.{length, get_or}
use borrow.Author.Tests.{ltb-true, ltb-false}
use Rattle.law.specs.Words.{pick, All}
use Rattle.law.specs.Choice.{split, true_not_false, both}
use Rattle.law.specs.Deciding.{Decides}
use Rattle.flash.specs.Code.{sector_locked}
use Rattle.page.specs.Geometry.{flash_sector, flash_sectors}
use Rattle.fewest.specs.declared.Test.TheVariants.{Differs}
use Rattle.fewest.specs.Below.{any_here, any_true}
use Rattle.fewest.specs.Entries.{Entry, Yields, cycles, has, is_chip_erase}
use Rattle.fewest.specs.Fewest.{DiffersLocked, Fewest, InOrder, Formed}
use Rattle.fewest.specs.Plan.{in_sector, erases_in, programs_in, by_chip, plan_by, plan_of, differs_locked}
use Rattle.fewest.proofs.Costs.{cost_by_sectors, cost_by_chip, cost_sectors, cost_chip}
use Rattle.fewest.proofs.Traces.{erases_chip, has_if, chip_erase_is}
use Rattle.fewest.proofs.Facts.{sector_of_place, some_in, any_in_lem, holds_at, differs, same}
use Rattle.fewest.proofs.Lower.{at_least_sectors, at_least_chip}
use Rattle.fewest.proofs.Attains.{yields_sectors, yields_chip, sectors_start, chip_starts, none_locked, all_locked_nothing, length_plan}
use Rattle.fewest.proofs.Ordered.{plan_in_order, plan_well_formed, no_chip_erase}

module _ (status : ℕ) (present wanted : List ℕ) where
  pub in_order : InOrder (plan_of present wanted status)
  unfolding plan_of
  in_order = plan_in_order status present wanted (by_chip present wanted status)

  pub well_formed : All (Formed wanted) (plan_of present wanted status)
  unfolding plan_of
  well_formed = plan_well_formed status present wanted (by_chip present wanted status)

  pub refusal_15 : Decides (differs_locked present wanted status) (DiffersLocked status present wanted)
  unfolding differs_locked
  refusal_15 = record {
    holds = λ e.
        let r = any_true flash_sectors (λ s. pick (sector_locked status (suc s)) (in_sector present wanted Differs s) false) e in
        let s = r.0 in
        let b = both (sector_locked status (suc s)) (in_sector present wanted Differs s) r.2 in
        let p = some_in present wanted Differs (flash_sector * s) flash_sector b.1 in
        let l : s < flash_sectors = r.1 in
        (p.0, omega (arith, p.2, l), ap (sector_locked status) (sector_of_place s p.0 l p.1 p.2) ∙ b.0, differs present wanted p.0 p.3);
    fails = λ e p.
        let k = p.0 in
        let s = k / flash_sector in
        let l : s < flash_sectors = omega (arith, p.1) in
        let locked : sector_locked status (suc s) ≡ true = ap (sector_locked status) (sym (sector_of_place s k l (omega arith) (omega arith))) ∙ p.2 in
        split (holds_at present wanted Differs k)
        (λ t.
        let there = any_in_lem present wanted Differs (flash_sector * s) flash_sector k (omega arith) (omega arith) t in
        true_not_false
        (sym (any_here flash_sectors s (λ s. pick (sector_locked status (suc s)) (in_sector present wanted Differs s) false) l (rw (locked, there) refl)) ∙ e))
        (λ t. p.3 (same present wanted k t));
  }

  module _ (presentBytes : (k : ℕ) → get_or present k 0 < 256) (wantedBytes : (k : ℕ) → get_or wanted k 0 < 256)
      (allowed : differs_locked present wanted status ≡ false) where
    -- a list without a chip erase that starts
    sectors_bound : (other : List Entry) → Yields status present wanted other → has is_chip_erase other ≡ false → cost_by_sectors present wanted ≤ cycles status other
    sectors_bound other y none =
        at_least_sectors status present wanted presentBytes other y
        (split (has (erases_chip status) other)
        (λ t. absurd (true_not_false (sym (has_if (erases_chip status) is_chip_erase (chip_erase_is status) other t) ∙ none))) (λ t. t))

    bound : (other : List Entry) → Yields status present wanted other
        → (b : Bool) → has (erases_chip status) other ≡ b → pick b (cost_by_chip present wanted status) (cost_by_sectors present wanted) ≤ cycles status other
    bound other y true e = at_least_chip status present wanted presentBytes other y e
    bound other y false e = at_least_sectors status present wanted presentBytes other y e

    -- the plan's number with a chip erase, and without
    pub number_chip : length (plan_by present wanted status true) ≡ cost_by_chip present wanted status
    number_chip = length_plan status present wanted true ∙ cost_chip present wanted status (none_locked status present wanted wantedBytes allowed)

    pub number_sectors : length (plan_by present wanted status false) ≡ cost_by_sectors present wanted
    number_sectors = length_plan status present wanted false ∙ cost_sectors present wanted status

    pub pays : by_chip present wanted status ≡ true → cost_by_chip present wanted status < cost_by_sectors present wanted
    unfolding by_chip
    pays e =
        omega (
          arith,
          ltb-true (erases_in present wanted true + programs_in present wanted status true) (erases_in present wanted false + programs_in present wanted status false) e,
          cost_chip present wanted status (none_locked status present wanted wantedBytes allowed),
          cost_sectors present wanted status,
        )

    pub pays_not : by_chip present wanted status ≡ false → cost_by_sectors present wanted ≤ cost_by_chip present wanted status
    unfolding by_chip
    pays_not e =
        omega (
          arith,
          ltb-false (erases_in present wanted true + programs_in present wanted status true) (erases_in present wanted false + programs_in present wanted status false) e,
          cost_chip present wanted status (none_locked status present wanted wantedBytes allowed),
          cost_sectors present wanted status,
        )

    -- where a chip erase pays, it starts
    chip_free : by_chip present wanted status ≡ true → sector_locked status 1 ≡ false
    chip_free e =
        split (sector_locked status 1)
        (λ t. absurd (none (pays e) (all_locked_nothing status present wanted wantedBytes allowed t)))
        (λ t. t)
      where
        none : {c s : ℕ} → c < s → s ≡ 0 → ⊥
        none l e = omega arith

    by : (chip : Bool) → by_chip present wanted status ≡ chip → Fewest status present wanted (plan_by present wanted status chip)
    by true e =
        let free = chip_free e in
        let paid = pays e in
        record {
          yields = yields_chip status present wanted wantedBytes allowed free;
          all_start = chip_starts status present wanted wantedBytes allowed free;
          fewest = λ other y. rw number_chip
              (lesser (has (erases_chip status) other) paid (bound other y (has (erases_chip status) other) refl));
          chip_erase_lem = λ h other y same.
              split (has is_chip_erase other) (λ t. t)
              (λ t. absurd (above paid (sectors_bound other y t) (same ∙ number_chip)));
        }
      where
        lesser : {c s n : ℕ} (b : Bool) → c < s → pick b c s ≤ n → c ≤ n
        lesser true l h = h
        lesser false l h = omega arith

        above : {c s n : ℕ} → c < s → s ≤ n → n ≡ c → ⊥
        above l h e = omega arith
    by false e =
        record {
          yields = yields_sectors status present wanted wantedBytes allowed;
          all_start = sectors_start status present wanted wantedBytes allowed;
          fewest = λ other y. rw number_sectors
              (lesser (has (erases_chip status) other) (pays_not e) (bound other y (has (erases_chip status) other) refl));
          chip_erase_lem = λ h. absurd (true_not_false (sym h ∙ no_chip_erase status present wanted));
        }
      where
        lesser : {c s n : ℕ} (b : Bool) → s ≤ c → pick b c s ≤ n → s ≤ n
        lesser true l h = omega arith
        lesser false l h = h

    pub plan_is_fewest : Fewest status present wanted (plan_of present wanted status)
    unfolding plan_of
    plan_is_fewest = by (by_chip present wanted status) refl
