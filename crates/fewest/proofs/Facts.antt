-- The facts about a page or a sector, told of its places.
use mathlib.Core.Path.{◌≡◌, refl, sym, ap, ◌∙◌}
use mathlib.Core.Bool.{Bool, true, false, not}
use mathlib.Core.List.{List}
use Prim.Native.Nat.{ℕ, suc, ◌+◌, ◌-◌, ◌*◌, ◌/◌, ◌%◌, ◌≤◌, ◌<◌}
use native.Mathlib.Nat.{mod-eq_of_lt}
use native.Mathlib.Omega.{arith}
use lib.Bits.{bit_and, and_mask}
use lib.Dec.{eqb}
use lib.ListN.{get_or}
use borrow.Author.Tests.{eqb-true, eqb-false, eq-eqb, not-true, not-false}
use Rattle.law.specs.Choice.{split, true_not_false}
use Rattle.flash.specs.Code.{sector_of, locked_by, sector_locked}
use Rattle.page.specs.Geometry.{flash_page, flash_sector, flash_sectors}
use Rattle.fewest.specs.declared.Test.{Test}
use Rattle.fewest.specs.declared.Test.TheVariants.{Differs, Rises, Unblank}
use Rattle.fewest.specs.Below.{any_here, any_none, any_false, any_true}
use Rattle.fewest.specs.Plan.{holds, any_in}

-- ---- places, pages, sectors

pub page_of_place : (n k : ℕ) → flash_page * n ≤ k → k < flash_page * n + flash_page → k / flash_page ≡ n
page_of_place n k a b = omega arith

pub sector_of_place : (s k : ℕ) → s < flash_sectors → flash_sector * s ≤ k → k < flash_sector * s + flash_sector → sector_of k ≡ suc s
sector_of_place s k l a b = omega arith

-- ---- bytes

pub and_ff : (v : ℕ) → v < 256 → bit_and v 255 ≡ v
and_ff v h = and_mask v 8 ∙ mod-eq_of_lt h

not_eqb : (a b : ℕ) → not (eqb a b) ≡ true → a ≡ b → ⊥
not_eqb a b t = eqb-false a b (not-true (eqb a b) t)

yes_eqb : (a b : ℕ) → not (eqb a b) ≡ false → a ≡ b
yes_eqb a b t = eqb-true a b (not-false (eqb a b) t)

-- ---- the tests of a stretch

module _ (present wanted : List ℕ) where
  abbrev pub holds_at : Test → ℕ → Bool
  holds_at t k = holds t (get_or present k 0) (get_or wanted k 0)

  from : (first k : ℕ) → first ≤ k → first + (k - first) ≡ k
  from first k l = omega arith

  pub any_in_lem : (t : Test) (first count k : ℕ) → first ≤ k → k < first + count → holds_at t k ≡ true → any_in present wanted t first count ≡ true
  unfolding any_in
  any_in_lem t first count k a b e =
      any_here count (k - first) (λ q. holds_at t (first + q)) (omega arith) (ap (holds_at t) (from first k a) ∙ e)

  pub none_in : (t : Test) (first count k : ℕ) → any_in present wanted t first count ≡ false → first ≤ k → k < first + count → holds_at t k ≡ false
  unfolding any_in
  none_in t first count k e a b =
      ap (holds_at t) (sym (from first k a)) ∙ any_false count (λ q. holds_at t (first + q)) e (k - first) (omega arith)

  pub some_in : (t : Test) (first count : ℕ) → any_in present wanted t first count ≡ true
      → (k : ℕ) × (first ≤ k) × (k < first + count) × (holds_at t k ≡ true)
  unfolding any_in
  some_in t first count e =
      let r = any_true count (λ q. holds_at t (first + q)) e in
      (first + r.0, omega arith, omega (arith, r.1), r.2)

  pub all_in : (t : Test) (first count : ℕ) → ((k : ℕ) → first ≤ k → k < first + count → holds_at t k ≡ false) → any_in present wanted t first count ≡ false
  unfolding any_in
  all_in t first count h = any_none count (λ q. holds_at t (first + q)) (λ q l. h (first + q) (omega arith) (omega arith))

  -- what a test says of a place
  pub differs : (k : ℕ) → holds_at Differs k ≡ true → get_or present k 0 ≡ get_or wanted k 0 → ⊥
  differs k t = not_eqb (get_or present k 0) (get_or wanted k 0) t

  pub same : (k : ℕ) → holds_at Differs k ≡ false → get_or present k 0 ≡ get_or wanted k 0
  same k t = yes_eqb (get_or present k 0) (get_or wanted k 0) t

  pub same_not : (k : ℕ) → get_or present k 0 ≡ get_or wanted k 0 → holds_at Differs k ≡ false
  same_not k e = rw (eq-eqb (get_or present k 0) (get_or wanted k 0) e) refl

  pub rises : (k : ℕ) → holds_at Rises k ≡ true → bit_and (get_or present k 0) (get_or wanted k 0) ≡ get_or wanted k 0 → ⊥
  rises k t = not_eqb (bit_and (get_or present k 0) (get_or wanted k 0)) (get_or wanted k 0) t

  pub rises_not : (k : ℕ) → holds_at Rises k ≡ false → bit_and (get_or present k 0) (get_or wanted k 0) ≡ get_or wanted k 0
  rises_not k t = yes_eqb (bit_and (get_or present k 0) (get_or wanted k 0)) (get_or wanted k 0) t

  pub blank : (k : ℕ) → holds_at Unblank k ≡ false → get_or wanted k 0 ≡ 255
  blank k t = yes_eqb (get_or wanted k 0) 255 t

  pub unblank : (k : ℕ) → holds_at Unblank k ≡ true → get_or wanted k 0 ≡ 255 → ⊥
  unblank k t = not_eqb (get_or wanted k 0) 255 t

-- where no bit has to rise, bytes that differ have a wanted one that is not ff
pub falls_unblank : (v w : ℕ) → v < 256 → holds Rises v w ≡ false → holds Differs v w ≡ true → holds Unblank v w ≡ true
falls_unblank v w b r d =
    split (eqb w 255)
    (λ t.
    let e : w ≡ 255 = eqb-true w 255 t in
    let u : bit_and v w ≡ w = yes_eqb (bit_and v w) w r in
    absurd (not_eqb v w d (sym (and_ff v b) ∙ ap (bit_and v) (sym e) ∙ u)))
    (λ t. rw t refl)

-- ---- the lock table: where the first sector is locked, all are
pub all_locked : (status s : ℕ) → sector_locked status 1 ≡ true → sector_locked status s ≡ true
all_locked status s h = table (status / flash_sectors % flash_sectors) h
  where
    table : (bp : ℕ) → locked_by bp 1 ≡ true → locked_by bp s ≡ true
    table bp e =
        split (eqb bp 0) (λ t. absurd (true_not_false (sym (rw t at e))))
        (λ t. split (eqb bp 1) (λ u. absurd (true_not_false (sym (rw (t, u) at e))))
        (λ u. split (eqb bp 2) (λ v. absurd (true_not_false (sym (rw (t, u, v) at e))))
        (λ v. rw (t, u, v) refl)))
