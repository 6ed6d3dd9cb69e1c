-- The counting, which sees no byte: a list has at least one cycle for each page that it programs, each sector that it erases and its chip erase;
-- and what a list must program and erase adds up to the plan's cost.
use mathlib.Core.Path.{◌≡◌, refl, sym, ap, subst}
use mathlib.Core.Bool.{Bool, true, false}
use mathlib.Core.List.{List, [], ◌∷◌}
use Prim.Native.Nat.{ℕ, suc, ◌+◌, ◌-◌, ◌*◌, ◌≤◌, ◌<◌}
use native.Mathlib.Omega.{arith}
use lib.Dec.{eqb}
use borrow.Author.Tests.{eqb-true}
use Rattle.law.specs.Words.{pick}
use Rattle.law.specs.Choice.{split, true_not_false, both}
use Rattle.fewest.specs.Below.{sum_below, count_below, one, sum_le, sum_plus, sum_zero, sum_blocks, sum_tight, count_le, count_one, count_tight, same_flag}
use Rattle.fewest.specs.Entries.{Entry, sector_erase, chip_erase, program, starts, cycles, has}
use Rattle.fewest.proofs.Traces.{programs_page, erases_sector, erases_chip}

module _ (status : ℕ) where
  -- the cycles that a list cannot do without: a page, a sector, the chip, each once
  unfoldable pub kinds : ℕ → ℕ → List Entry → ℕ
  kinds pages sectors os =
      count_below pages (λ n. has (programs_page status n) os)
      + count_below sectors (λ s. has (erases_sector status (suc s)) os)
      + one (has (erases_chip status) os)

  has_more : (f : Entry → Bool) (o : Entry) (os : List Entry) → one (has f (o ∷ os)) ≤ one (f o) + one (has f os)
  unfolding has
  has_more f o os = split (f o) (λ t. rw t (omega arith)) (λ t. rw t (omega arith))

  count_more : (n : ℕ) (f : ℕ → Entry → Bool) (o : Entry) (os : List Entry)
      → count_below n (λ i. has (f i) (o ∷ os)) ≤ count_below n (λ i. f i o) + count_below n (λ i. has (f i) os)
  count_more n f o os =
      subst (λ (x : ℕ). count_below n (λ i. has (f i) (o ∷ os)) ≤ x) (sum_plus n (λ i. one (f i o)) (λ i. one (has (f i) os)))
      (sum_le n (λ i. one (has (f i) (o ∷ os))) (λ i. one (f i o) + one (has (f i) os)) (λ i l. has_more (f i) o os))

  -- an entry that starts is of one kind, one that does not of none
  mine : (t : Bool) (n m : ℕ) (f : ℕ → Bool) → ((i : ℕ) → f i ≡ true → (t ≡ true) × (i ≡ m)) → count_below n f ≤ pick t 1 0
  mine true n m f h = count_one n m f (λ i e. (h i e).1)
  mine false n m f h =
      let none : count_below n f ≡ 0 =
      sum_zero n (λ i. one (f i)) (λ i l. split (f i) (λ t. absurd (true_not_false (sym (h i t).0))) (λ t. rw t refl)) in
      omega arith

  none : (n : ℕ) → count_below n (λ i. false) ≡ 0
  none n = sum_zero n (λ i. 0) (λ i l. refl)

  one_kind : (pages sectors : ℕ) (o : Entry)
      → count_below pages (λ n. programs_page status n o) + count_below sectors (λ s. erases_sector status (suc s) o) + one (erases_chip status o)
      ≤ pick (starts status o) 1 0
  one_kind pages sectors (sector_erase s) =
      let a = none pages in
      let b = mine (starts status (sector_erase s)) sectors (s - 1) (λ i. erases_sector status (suc i) (sector_erase s))
      (λ i e. let r = both (starts status (sector_erase s)) (eqb (suc i) s) e in (r.0, pred i s (eqb-true (suc i) s r.1))) in
      omega (arith, a, b)
    where
      pred : (i s : ℕ) → suc i ≡ s → i ≡ s - 1
      pred i s e = omega arith
  one_kind pages sectors chip_erase = omega (arith, none pages, none sectors)
  one_kind pages sectors (program m bytes) =
      let a = none sectors in
      let b = mine (starts status (program m bytes)) pages m (λ i. programs_page status i (program m bytes))
      (λ i e. let r = both (starts status (program m bytes)) (eqb i m) e in (r.0, eqb-true i m r.1)) in
      omega (arith, a, b)

  pub kinds_le : (pages sectors : ℕ) (os : List Entry) → kinds pages sectors os ≤ cycles status os
  unfolding kinds cycles has
  kinds_le pages sectors [] = omega (arith, none pages, none sectors)
  kinds_le pages sectors (o ∷ os) =
      omega (
        arith,
        kinds_le pages sectors os,
        one_kind pages sectors o,
        count_more pages (programs_page status) o os,
        count_more sectors (λ s. erases_sector status (suc s)) o os,
        has_more (erases_chip status) o os,
      )

-- what a list that yields the wanted content must do, told of pages and sectors alone: P programmed, E erased by a sector erase, C by a chip erase;
-- R a bit has to rise in the sector, U not all ff, D differs, L locked. Sectors count from 0, a sector has `size` pages
module _ (size sectors : ℕ) (P E R U D L : ℕ → Bool) where
  -- the pages of sector s that a test holds of
  abbrev pub pages_in : (ℕ → Bool) → ℕ → ℕ
  pages_in f s = count_below size (λ j. f (size * s + j))

  -- without a chip erase
  module _ (rise : (s : ℕ) → s < sectors → R s ≡ true → E s ≡ true)
      (erased : (s j : ℕ) → s < sectors → j < size → E s ≡ true → U (size * s + j) ≡ true → P (size * s + j) ≡ true)
      (kept : (s j : ℕ) → s < sectors → j < size → E s ≡ false → D (size * s + j) ≡ true → P (size * s + j) ≡ true)
      (needed : (s j : ℕ) → s < sectors → j < size → R s ≡ false → D (size * s + j) ≡ true → U (size * s + j) ≡ true) where
    one_sector : (s : ℕ) → s < sectors → pick (R s) (1 + pages_in U s) (pages_in D s) ≤ pages_in P s + one (E s)
    one_sector s l =
        split (R s)
        (λ t. let e = rise s l t in
        let h = count_le size (λ j. U (size * s + j)) (λ j. P (size * s + j)) (λ j b u. erased s j l b e u) in
        rw (t, e) (omega (arith, h)))
        (λ t.
        let h = count_le size (λ j. D (size * s + j)) (λ j. P (size * s + j))
        (λ j b d. split (E s) (λ e. erased s j l b e (needed s j l b t d)) (λ e. kept s j l b e d)) in
        rw t (omega (arith, h)))

    pub without_chip : sum_below sectors (λ s. pick (R s) (1 + pages_in U s) (pages_in D s)) ≤ count_below (size * sectors) P + count_below sectors E
    without_chip =
        omega (
          arith,
          sum_le sectors (λ s. pick (R s) (1 + pages_in U s) (pages_in D s)) (λ s. pages_in P s + one (E s)) one_sector,
          sum_plus sectors (pages_in P) (λ s. one (E s)),
          sum_blocks size sectors (λ n. one (P n)),
        )

    -- a list that takes no more does nothing else
    module _ (tight : count_below (size * sectors) P + count_below sectors E ≤ sum_below sectors (λ s. pick (R s) (1 + pages_in U s) (pages_in D s))) where
      each : (s : ℕ) → s < sectors → pages_in P s + one (E s) ≤ pick (R s) (1 + pages_in U s) (pages_in D s)
      each =
          sum_tight sectors (λ s. pick (R s) (1 + pages_in U s) (pages_in D s)) (λ s. pages_in P s + one (E s)) one_sector
          (omega (arith, tight, sum_plus sectors (pages_in P) (λ s. one (E s)), sum_blocks size sectors (λ n. one (P n))))

      differing : (s j : ℕ) → s < sectors → j < size → R s ≡ false → D (size * s + j) ≡ true → P (size * s + j) ≡ true
      differing s j l b r d = split (E s) (λ e. erased s j l b e (needed s j l b r d)) (λ e. kept s j l b e d)

      pub only_erased : (s : ℕ) → s < sectors → E s ≡ R s
      only_erased s l =
          same_flag (E s) (R s)
          (λ e.
          split (R s) (λ r. r)
          (λ r.
          let most : pages_in P s + one (E s) ≤ pages_in D s = rw r at (each s l) in
          let least = count_le size (λ j. D (size * s + j)) (λ j. P (size * s + j)) (λ j b d. differing s j l b r d) in
          let one_more : one (E s) ≡ 1 = ap one e in
          absurd (omega (arith, most, least, one_more))))
          (λ r. rise s l r)

      pub only_programmed : (s j : ℕ) → s < sectors → j < size → P (size * s + j) ≡ pick (R s) (U (size * s + j)) (D (size * s + j))
      only_programmed s j l b =
          split (R s)
          (λ r.
          let e = rise s l r in
          let one_more : one (E s) ≡ 1 = ap one e in
          let most : pages_in P s + one (E s) ≤ 1 + pages_in U s = rw r at (each s l) in
          rw r
          (same_flag (P (size * s + j)) (U (size * s + j))
          (count_tight size (λ j. U (size * s + j)) (λ j. P (size * s + j)) (λ j b u. erased s j l b e u) (omega (arith, most, one_more)) j b)
          (erased s j l b e)))
          (λ r.
          let most : pages_in P s + one (E s) ≤ pages_in D s = rw r at (each s l) in
          rw r
          (same_flag (P (size * s + j)) (D (size * s + j))
          (count_tight size (λ j. D (size * s + j)) (λ j. P (size * s + j)) (λ j b d. differing s j l b r d) (omega (arith, most)) j b)
          (differing s j l b r)))

  -- with one
  module _ (reached : (s j : ℕ) → s < sectors → j < size → L s ≡ false → U (size * s + j) ≡ true → P (size * s + j) ≡ true) where
    unlocked : (s : ℕ) → s < sectors → pick (L s) 0 (pages_in U s) ≤ pages_in P s
    unlocked s l =
        split (L s) (λ t. rw t (omega arith))
        (λ t. rw t (count_le size (λ j. U (size * s + j)) (λ j. P (size * s + j)) (λ j b u. reached s j l b t u)))

    pub with_chip : sum_below sectors (λ s. pick (L s) 0 (pages_in U s)) ≤ count_below (size * sectors) P
    with_chip =
        omega (
          arith,
          sum_le sectors (λ s. pick (L s) 0 (pages_in U s)) (pages_in P) unlocked,
          sum_blocks size sectors (λ n. one (P n)),
        )

    module _ (tight : count_below (size * sectors) P ≤ sum_below sectors (λ s. pick (L s) 0 (pages_in U s))) where
      pub only_unlocked : (s j : ℕ) → s < sectors → j < size → P (size * s + j) ≡ pick (L s) false (U (size * s + j))
      only_unlocked s j l b =
          let most = sum_tight sectors (λ s. pick (L s) 0 (pages_in U s)) (pages_in P) unlocked (omega (arith, tight, sum_blocks size sectors (λ n. one (P n)))) s l in
          split (L s)
          (λ t.
          let none : pages_in P s ≤ 0 = rw t at most in
          rw t
          (same_flag (P (size * s + j)) false
          (count_tight size (λ j. false) (λ j. P (size * s + j)) (λ j b e. absurd (true_not_false (sym e))) (omega (arith, none)) j b)
          (λ e. absurd (true_not_false (sym e)))))
          (λ t.
          let few : pages_in P s ≤ pages_in U s = rw t at most in
          rw t
          (same_flag (P (size * s + j)) (U (size * s + j))
          (count_tight size (λ j. U (size * s + j)) (λ j. P (size * s + j)) (λ j b u. reached s j l b t u) few j b)
          (reached s j l b t)))
