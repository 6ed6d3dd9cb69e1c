-- The parts that are taken from the logger: what is of one is of no other and moves no bus, together they are all that is taken, and each stands by rising number.
use mathlib.Core.Path.{◌≡◌, refl}
use mathlib.Core.Bool.{Bool, true, false}
use mathlib.Core.List.{List, [], ◌∷◌, ◌++◌}
use Prim.Native.Nat.{ℕ, ◌+◌, ◌≤◌}
use native.Mathlib.Omega.{arith}
use Rattle.std.proofs.Common.{rules}
use Rattle.law.specs.Words.{filter, keep, All, Rising}
use Rattle.law.specs.Lists.{all_pass}
use Rattle.law.specs.Ordering.{total, total_append, order_total, rising_filter}
use Rattle.record.specs.declared.Event.{Event}
use Rattle.record.specs.declared.Record.{Record}
use Rattle.capture.specs.declared.Part.{Part}
use Rattle.capture.specs.declared.Part.TheVariants.{FlashEnds, EepromEnds, Lines}
use Rattle.capture.specs.Taken.{is_of, part_of, taken, taken_of, moves_flash, moves_eeprom}
use Rattle.level.specs.declared.Level.{Level}
use Rattle.decode.specs.Decoded.{decoded_from, decoded_by, flash_start, wires_start, flash_of, eeprom_of}
use Rattle.capture.specs.Merge.{channel_place, number_of, Merged}

pub part_taken : (p : Part) (e : Event) → is_of p e ≡ true → taken e ≡ true
part_taken p e h = search rules

-- what is taken moves no bus, and what moves one is not taken
pub flash_stays : (e : Event) → taken e ≡ true → moves_flash e ≡ false
flash_stays e h = search rules

pub eeprom_stays : (e : Event) → taken e ≡ true → moves_eeprom e ≡ false
eeprom_stays e h = search rules

pub flash_not_taken : (p : Part) (e : Event) → moves_flash e ≡ true → is_of p e ≡ false
flash_not_taken p e h = search rules

pub eeprom_not_taken : (p : Part) (e : Event) → moves_eeprom e ≡ true → is_of p e ≡ false
eeprom_not_taken p e h = search rules

-- ---- one part and another
abbrev pub same : Part → Part → Bool
same FlashEnds FlashEnds = true
same FlashEnds EepromEnds = false
same FlashEnds Lines = false
same EepromEnds FlashEnds = false
same EepromEnds EepromEnds = true
same EepromEnds Lines = false
same Lines FlashEnds = false
same Lines EepromEnds = false
same Lines Lines = true

pub of_one : (p q : Part) (e : Event) → is_of q e ≡ true → is_of p e ≡ same p q
of_one p q e h = search rules

-- ---- all parts together are what is taken: every sum over them is the sum over it
worth : Bool → ℕ → ℕ
worth true n = n
worth false n = 0

keep_total : (f : Record → ℕ) (t : Bool) (r : Record) (l : List Record) → total f (keep t r l) ≡ worth t (f r) + total f l
unfolding keep total worth
keep_total f true r l = refl
keep_total f false r l = omega arith

-- a record that is taken is of one part
one_part : (e : Event) (n : ℕ) → worth (taken e) n ≡ worth (is_of FlashEnds e) n + worth (is_of EepromEnds e) n + worth (is_of Lines e) n
unfolding worth
one_part e n = search rules

parts_total : (f : Record → ℕ) (rs : List Record) → total f (taken_of rs) ≡ total f (part_of FlashEnds rs) + total f (part_of EepromEnds rs) + total f (part_of Lines rs)
unfolding filter total
parts_total f [] = refl
parts_total f (r ∷ rs) =
    omega (
      arith,
      keep_total f (taken r.event) r (taken_of rs),
      keep_total f (is_of FlashEnds r.event) r (part_of FlashEnds rs),
      keep_total f (is_of EepromEnds r.event) r (part_of EepromEnds rs),
      keep_total f (is_of Lines r.event) r (part_of Lines rs),
      one_part r.event (f r),
      parts_total f rs,
    )

-- every sum over the merged records is that over what the capture gives and what is taken
pub merged_total : (f : Record → ℕ) (a : Level) (ls : List Level) (rs m : List Record) → Merged (a ∷ ls) rs m →
    total f m ≡ total f (decoded_from flash_start a ls) + total f (decoded_from wires_start a ls) + total f (taken_of rs)
unfolding decoded_by
merged_total f a ls rs m p =
    let flash = flash_of (a ∷ ls) in
    let eeprom = eeprom_of (a ∷ ls) in
    omega (
      arith,
      order_total number_of f p,
      total_append f flash (eeprom ++ (part_of FlashEnds rs ++ (part_of EepromEnds rs ++ part_of Lines rs))),
      total_append f eeprom (part_of FlashEnds rs ++ (part_of EepromEnds rs ++ part_of Lines rs)),
      total_append f (part_of FlashEnds rs) (part_of EepromEnds rs ++ part_of Lines rs),
      total_append f (part_of EepromEnds rs) (part_of Lines rs),
      parts_total f rs,
    )

-- ---- by stamp, and so by number
-- what rises by one number rises by another that follows it
module _ {A : Type 0} (f g : A → ℕ) (P : A → Type 0) (h : (a b : A) → P a → P b → f a ≤ f b → g a ≤ g b) where
  heads : (a : A) (l : List A) → P a → All P l → All (λ (b : A). f a ≤ f b) l → All (λ (b : A). g a ≤ g b) l
  unfolding All
  heads a [] q p r = tt
  heads a (b ∷ l) q p r = (h a b q p.0 r.0, heads a l q p.1 r.1)

  pub rising_by : (l : List A) → All P l → Rising f l → Rising g l
  unfolding Rising All
  rising_by [] p r = tt
  rising_by (a ∷ l) p r = (heads a l p.0 p.1 r.0, rising_by l p.1 r.1)

abbrev place_in : Part → ℕ
place_in FlashEnds = 0
place_in EepromEnds = 1
place_in Lines = 2

part_place : (p : Part) (e : Event) → is_of p e ≡ true → channel_place e ≡ place_in p
part_place p e h = search rules

pub part_rising : (p : Part) (rs : List Record) → Rising (λ (r : Record). r.stamp) rs → Rising number_of (part_of p rs)
part_rising p rs h =
    rising_by (λ (r : Record). r.stamp) number_of (λ (r : Record). channel_place r.event ≡ place_in p) (λ a b x y le. omega arith)
    (part_of p rs) (all_pass _ _ (λ r k. part_place p r.event k) rs) (rising_filter (λ (r : Record). r.stamp) _ rs h)
