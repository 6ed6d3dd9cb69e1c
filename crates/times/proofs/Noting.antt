-- Noting the pages of one chip is writing their entries. Assumes nothing.
use mathlib.Core.Path.{◌≡◌, sym, ap, ◌∙◌}
use mathlib.Core.Bool.{false}
use mathlib.Core.Logic.{⊎_elim}
use mathlib.Core.List.{List}
use Prim.Native.Nat.{ℕ, ◌+◌, ◌-◌, ◌/◌, ◌%◌, ◌≤◌, ◌<◌}
use native.Mathlib.Omega.{arith}
use borrow.Author.Tests.{eqb-true, eqb-false, eq-eqb, ne_eqb, lt-leb, le-leb, lt-ltb, le-ltb, leb-true, ltb-true}
use lib.Dec.{eqb, leb, ltb}
use Rattle.law.specs.Choice.{split, lt_or_le}
use Rattle.law.specs.Words.{pick, by_place}
use Rattle.law.specs.Stretch.{skip, stop}
use Rattle.record.specs.declared.Chip.{Chip}
use Rattle.times.specs.declared.Pages.{Pages}
use Rattle.times.specs.declared.Pages.TheVariants.{None, One, All}
use Rattle.times.specs.Times.{written, pages_of, first_entry, entry_byte, reaches}
use Rattle.times.specs.Put.{entries_with, pages_with}

-- ---- lists by place
pub same_places : (f g : ℕ → ℕ → ℕ) (xs : List ℕ) → ((k x : ℕ) → f k x ≡ g k x) → by_place f 0 xs ≡ by_place g 0 xs
same_places f g xs h = ap (λ (r : ℕ → ℕ → ℕ). by_place r 0 xs) (λ i k x. h k x i)

kept : (f : ℕ → ℕ → ℕ) (xs : List ℕ) → ((k x : ℕ) → f k x ≡ x) → xs ≡ by_place f 0 xs
kept f xs h = sym (skip f 0 xs (λ k x l. h k x)) ∙ stop f 0 xs (λ k x l. h k x)

-- ---- entry e, where the chip's `many` entries begin at base
module _ (base many e a x : ℕ) where
  abbrev mine : Pages → ℕ
  mine p = pick (pick (leb base e) (pick (ltb e (base + many)) (reaches p (e - base)) false) false) a x

  one_entry : (n : ℕ) → n < many → pick (leb (base + n) e) (pick (ltb e (base + n + 1)) a x) x ≡ mine (One n)
  one_entry n l =
      split (eqb e (base + n))
      (λ t. let h = eqb-true e (base + n) t in simp (le-leb (base + n) e (omega arith), lt-ltb e (base + n + 1) (omega arith), le-leb base e (omega arith), lt-ltb e (base + many) (omega arith), eq-eqb (e - base) n (omega arith)))
      (λ t.
      let d = eqb-false e (base + n) t in
      ⊎_elim
      (λ h. split (leb base e)
      (λ u. let k = leb-true base e u in simp (lt-leb (base + n) e h, u, lt-ltb e (base + many) (omega arith), ne_eqb (e - base) n (λ z. d (omega arith))))
      (λ u. simp (lt-leb (base + n) e h, u)))
      (λ h. split (ltb e (base + many))
      (λ u. simp (le-leb (base + n) e h, le-ltb e (base + n + 1) (omega arith), le-leb base e (omega arith), u, ne_eqb (e - base) n (λ z. d (omega arith))))
      (λ u. simp (le-leb (base + n) e h, le-ltb e (base + n + 1) (omega arith), le-leb base e (omega arith), u))) (lt_or_le e (base + n)))

  all_entries : pick (leb base e) (pick (ltb e (base + many)) a x) x ≡ mine All
  all_entries = split (leb base e) (λ t. split (ltb e (base + many)) (λ u. simp (t, u)) (λ u. simp (t, u))) (λ t. simp t)

  no_entry : mine None ≡ x
  no_entry = split (leb base e) (λ t. split (ltb e (base + many)) (λ u. simp (t, u)) (λ u. simp (t, u))) (λ t. simp t)

  -- a page that the chip has not
  past_entry : (n : ℕ) → many ≤ n → mine (One n) ≡ x
  past_entry n l =
      split (leb base e)
      (λ t. split (ltb e (base + many)) (λ u. let k = leb-true base e t in let j = ltb-true e (base + many) u in simp (t, u, ne_eqb (e - base) n (λ z. omega arith))) (λ u. simp (t, u)))
      (λ t. simp t)

module _ (chip : Chip) (stamp : ℕ) (xs : List ℕ) where
  pub notes_one : (n : ℕ) → n < pages_of chip → entries_with (first_entry chip + n) 1 stamp xs ≡ pages_with chip stamp (One n) xs
  unfolding entries_with pages_with
  notes_one n l = same_places _ _ xs (λ k x. one_entry (first_entry chip) (pages_of chip) (k / 5) (entry_byte (written stamp) (k % 5)) x n l)

  pub notes_all : entries_with (first_entry chip) (pages_of chip) stamp xs ≡ pages_with chip stamp All xs
  unfolding entries_with pages_with
  notes_all = same_places _ _ xs (λ k x. all_entries (first_entry chip) (pages_of chip) (k / 5) (entry_byte (written stamp) (k % 5)) x)

  pub notes_none : xs ≡ pages_with chip stamp None xs
  unfolding pages_with
  notes_none = kept _ xs (λ k x. no_entry (first_entry chip) (pages_of chip) (k / 5) (entry_byte (written stamp) (k % 5)) x)

  pub notes_past : (n : ℕ) → pages_of chip ≤ n → xs ≡ pages_with chip stamp (One n) xs
  unfolding pages_with
  notes_past n l = kept _ xs (λ k x. past_entry (first_entry chip) (pages_of chip) (k / 5) (entry_byte (written stamp) (k % 5)) x n l)

-- the entries are few
pub few : (chip : Chip) → first_entry chip + pages_of chip ≤ 640
few Chip.Flash = omega arith
few Chip.Eeprom = omega arith
