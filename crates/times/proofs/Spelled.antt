-- The table spells the times: noting pages in the table of some times gives the table of the times after it, and a table of zeros is that of pages never written. Assumes nothing.
use mathlib.Core.Path.{◌≡◌, refl, ap, ◌∙◌}
use mathlib.Core.Bool.{Bool, true, false}
use mathlib.Core.Logic.{⊎_elim}
use mathlib.Core.List.{List, [], ◌∷◌}
use Prim.Native.Nat.{ℕ, zero, suc, ◌-◌, ◌/◌, ◌%◌, ◌≤◌, ◌<◌}
use native.Mathlib.Omega.{arith}
use borrow.Author.Tests.{lt-leb, le-leb, lt-ltb, le-ltb}
use lib.ListN.{replicate}
use Rattle.law.specs.Choice.{lt_or_le}
use Rattle.law.specs.Words.{pick, by_place}
use Rattle.record.specs.declared.Chip.TheVariants.{Flash, Eeprom}
use Rattle.times.specs.declared.Touched.{Touched}
use Rattle.times.specs.Times.{Time, never, written, Times, never_written, times_after, entry_of, entry_byte, times_length, time_bytes}
use Rattle.times.specs.Put.{notes, pages_with, times_with}
use Rattle.times.proofs.Noting.{same_places}

twice : (f g : ℕ → ℕ → ℕ) (i : ℕ) (xs : List ℕ) → by_place g i (by_place f i xs) ≡ by_place (λ k x. g k (f k x)) i xs
twice f g i [] = refl
twice f g i (x ∷ xs) = ap (λ (l : List ℕ). g i (f i x) ∷ l) (twice f g (suc i) xs)

pick_entry : (t : Bool) (a b : Time) (q : ℕ) → pick t (entry_byte a q) (entry_byte b q) ≡ entry_byte (pick t a b) q
pick_entry true a b q = refl
pick_entry false a b q = refl

-- ---- entry e
module _ (stamp : ℕ) (x : Touched) (y : Times) (e : ℕ) where
  abbrev noted : Time
  noted = pick (notes Eeprom x.eeprom e) (written stamp) (pick (notes Flash x.flash e) (written stamp) (entry_of y e))

  of_flash_lem : e < 128 → noted ≡ entry_of (times_after stamp x y) e
  of_flash_lem l =
      let z : e - 0 ≡ e = omega arith in
      simp (lt-leb 128 e l, le-leb 0 e (omega arith), lt-ltb e 128 l, z)

  of_eeprom : 128 ≤ e → e < 640 → noted ≡ entry_of (times_after stamp x y) e
  of_eeprom l h = simp (le-leb 128 e l, le-leb 0 e (omega arith), le-ltb e 128 l, lt-ltb e 640 h)

  of_none : 640 ≤ e → noted ≡ entry_of (times_after stamp x y) e
  of_none h = simp (le-leb 128 e (omega arith), le-leb 0 e (omega arith), le-ltb e 128 (omega arith), le-ltb e 640 h)

  entry_noted : noted ≡ entry_of (times_after stamp x y) e
  entry_noted = ⊎_elim of_flash_lem (λ l. ⊎_elim (of_eeprom l) of_none (lt_or_le e 640)) (lt_or_le e 128)

-- ---- the table, byte by byte: as it spells y, and as the pages of a chip are noted
abbrev spells : Times → ℕ → ℕ → ℕ
spells y k z = entry_byte (entry_of y (k / 5)) (k % 5)

module _ (stamp : ℕ) (x : Touched) (y : Times) where
  abbrev by_flash : ℕ → ℕ → ℕ
  by_flash k z = pick (notes Flash x.flash (k / 5)) (entry_byte (written stamp) (k % 5)) z

  abbrev by_eeprom : ℕ → ℕ → ℕ
  by_eeprom k z = pick (notes Eeprom x.eeprom (k / 5)) (entry_byte (written stamp) (k % 5)) z

  each_byte : (k z : ℕ) → by_eeprom k (by_flash k (spells y k z)) ≡ spells (times_after stamp x y) k z
  each_byte k z =
      ap (by_eeprom k) (pick_entry (notes Flash x.flash (k / 5)) (written stamp) (entry_of y (k / 5)) (k % 5))
      ∙ pick_entry (notes Eeprom x.eeprom (k / 5)) (written stamp) _ (k % 5)
      ∙ ap (λ (t : Time). entry_byte t (k % 5)) (entry_noted stamp x y (k / 5))

  pub put_spelled : times_with stamp x (time_bytes y) ≡ time_bytes (times_after stamp x y)
  unfolding times_with pages_with time_bytes
  put_spelled =
      let zs : List ℕ = replicate times_length 0 in
      ap (λ (l : List ℕ). by_place by_eeprom 0 l) (twice (spells y) by_flash 0 zs)
      ∙ twice (λ k z. by_flash k (spells y k z)) by_eeprom 0 zs
      ∙ same_places _ _ zs each_byte

-- ---- at the start
never_byte : (q : ℕ) → ◌≡◌ {A = ℕ} (entry_byte never q) 0
never_byte zero = refl
never_byte (suc zero) = refl
never_byte (suc (suc zero)) = refl
never_byte (suc (suc (suc zero))) = refl
never_byte (suc (suc (suc (suc zero)))) = refl
never_byte (suc (suc (suc (suc (suc q))))) = refl

never_entry : (e : ℕ) → entry_of never_written e ≡ never
never_entry e = ⊎_elim (λ l. simp (lt-ltb e 128 l)) (λ l. ⊎_elim (λ h. simp (le-ltb e 128 l, lt-ltb e 640 h)) (λ h. simp (le-ltb e 128 l, le-ltb e 640 h)) (lt_or_le e 640)) (lt_or_le e 128)

zeros : (i n : ℕ) → by_place (λ k z. 0) i (replicate n 0) ≡ replicate n 0
zeros i zero = refl
zeros i (suc n) = ap (λ (l : List ℕ). 0 ∷ l) (zeros (suc i) n)

pub never_spelled : time_bytes never_written ≡ replicate times_length 0
unfolding time_bytes
never_spelled =
    same_places _ (λ k z. 0) (replicate times_length 0) (λ k z. ap (λ (t : Time). entry_byte t (k % 5)) (never_entry (k / 5)) ∙ never_byte (k % 5)) ∙ zeros 0 times_length
