-- The control's way through the records of an entry. Assumes nothing.
use Prim.Native.Nat.{ℕ, ◌+◌, ◌*◌, ◌/◌, ◌%◌, ◌<◌}
use mathlib.Core.Path.{◌≡◌, refl, ap, ap₂, ◌∙◌}
use mathlib.Core.Bool.{Bool, true, false}
use mathlib.Core.List.{List, [], ◌∷◌, ◌++◌}
use native.Mathlib.Nat.{mod-eq_of_lt}
use native.Mathlib.Omega.{arith}
use lib.ListN.{set}
use borrow.Author.Tests.{eq-eqb}
use Rattle.page.specs.Geometry.{flash_size}
use Rattle.page.specs.Rolling.{rolled_in}
use Rattle.page.specs.Roll.{roll}
use Rattle.page.specs.Laws.{rolled_mod}
use Rattle.record.specs.declared.FlashEvent.{FlashEvent}
use Rattle.record.specs.declared.FlashEvent.TheVariants.{Deselect, End}
use Rattle.flash.specs.declared.Op.TheVariants as op
use Rattle.flash.specs.declared.LockFact.{LockFact}
use Rattle.flash.specs.declared.FlashCycle.TheVariants as cycle
use Rattle.std.specs.Prelude.{Some}
use Rattle.flash.specs.Code.{sector_of, locked_by, sector_locked, enabled, kept_bits, with_enable}
use Rattle.flash.specs.Frame.{fact_by, with_byte, rolled_on}
use Rattle.flash.specs.Cycle.{blank}
use Rattle.image.specs.Image.{Image}
use Rattle.machine.specs.Effects.{flash_after}
use Rattle.refill.specs.Records.{bytes_sent, opened, wren}
use Rattle.refill.proofs.Halves.{Half, half, moved, played, powered, idle, in_command, whole_of}

-- ---- the status with write enable

pub enabled_enable : (s : ℕ) → enabled (with_enable s) ≡ true
enabled_enable s = eq-eqb (with_enable s / 2 % 2) 1 (omega arith)

pub locked_enable : (s x : ℕ) → sector_locked (with_enable s) x ≡ sector_locked s x
locked_enable s x = ap (λ (bp : ℕ). locked_by bp x) bits where
  bits : with_enable s / 4 % 4 ≡ s / 4 % 4
  bits = omega arith

pub kept_enable : (s : ℕ) → kept_bits (with_enable s) ≡ kept_bits s
kept_enable s = omega arith

-- ---- the address

-- the place of three address bytes
abbrev pub place_sent : ℕ → ℕ → ℕ → ℕ
place_sent a b c = with_byte (with_byte (with_byte 0 a) b) c

-- one byte more of a number below 2 ^ 17
shifted : (x a d : ℕ) → x < 512 → d < 256 → x * 256 + d ≡ a → with_byte x d ≡ a
shifted x a d l k e =
    ap (λ (y : ℕ). (y * 256 + d) % flash_size) (mod-eq_of_lt l) ∙ ap (λ (y : ℕ). y % flash_size) e ∙ mod-eq_of_lt (omega arith)

pub address_sent : (a : ℕ) → a < flash_size → place_sent (a / 65536 % 256) (a / 256 % 256) (a % 256) ≡ a
address_sent a l =
    ap (λ (x : ℕ). with_byte (with_byte x (a / 256 % 256)) (a % 256)) (shifted 0 (a / 65536) (a / 65536 % 256) (omega arith) (omega arith) (omega arith))
    ∙ ap (λ (x : ℕ). with_byte x (a % 256)) (shifted (a / 65536) (a / 256) (a / 256 % 256) (omega arith) (omega arith) (omega arith))
    ∙ shifted (a / 256) a (a % 256) (omega arith) (omega arith) (omega arith)

-- ---- the places of PROGRAM's data, in page n

-- the place in the page after these bytes
abbrev pub roll_place : ℕ → List ℕ → ℕ
roll_place r [] = r
roll_place r (d ∷ ds) = roll_place ((r + 1) % 256) ds

pub roll_small : (r : ℕ) (ds : List ℕ) → r < 256 → roll_place r ds < 256
roll_small r [] l = l
roll_small r (d ∷ ds) l = roll_small ((r + 1) % 256) ds (omega arith)

rolled_on_lem : (n r : ℕ) → r < 256 → rolled_on (256 * n + r) ≡ 256 * n + (r + 1) % 256
rolled_on_lem n r l =
    let a : (256 * n + r) / 256 * 256 ≡ 256 * n = omega arith in
    let b : (256 * n + r) % 256 ≡ r = omega arith in
    ap₂ (λ (x y : ℕ). x + rolled_in 255 y) a b ∙ ap (λ (x : ℕ). 256 * n + x) (rolled_mod 255 r (omega arith))

in_page_lem : (n r : ℕ) → r < 256 → (256 * n + r) % 256 ≡ r
in_page_lem n r l = omega arith

-- ---- the records, with the supply on

module _ (lock : Bool) (watched : ℕ) where
  pub played_append : (xs ys : List FlashEvent) (h : Half) → played (powered lock) watched (xs ++ ys) h ≡ played (powered lock) watched ys (played (powered lock) watched xs h)
  unfolding played
  played_append [] ys h = refl
  played_append (e ∷ xs) ys h = played_append xs ys (moved (powered lock) watched h e)

  -- WREN sets write enable
  pub wren_played : (s : ℕ) (i : Image) → played (powered lock) watched wren (half (idle s) i) ≡ half (idle (with_enable s)) i
  unfolding played flash_after
  wren_played s i = refl

  -- an entry's frame, up to the address
  pub erase_sent : (s a b c : ℕ) (i : Image)
      → played (powered lock) watched (opened (0x52 ∷ a ∷ b ∷ c ∷ [])) (half (idle s) i) ≡ half (in_command op.SectorErase 4 (place_sent a b c) (fact_by (Some s) lock) s blank) i
  unfolding played flash_after
  erase_sent s a b c i = refl

  pub chip_sent : (s : ℕ) (i : Image)
      → played (powered lock) watched (opened (0x62 ∷ [])) (half (idle s) i) ≡ half (in_command op.ChipErase 1 0 (fact_by (Some s) lock) s blank) i
  unfolding played flash_after
  chip_sent s i = refl

  pub program_sent : (s a b c : ℕ) (i : Image)
      → played (powered lock) watched (opened (0x02 ∷ a ∷ b ∷ c ∷ [])) (half (idle s) i) ≡ half (in_command op.Program 4 (place_sent a b c) (fact_by (Some s) lock) s blank) i
  unfolding played flash_after
  program_sent s a b c i = refl

  -- PROGRAM's data
  next_data : (s n r d : ℕ) (fact : LockFact) (page : List ℕ) (i : Image) → r < 256
      → half (in_command op.Program 5 (rolled_on (256 * n + r)) fact s (set page ((256 * n + r) % 256) d)) i
      ≡ half (in_command op.Program 5 (256 * n + (r + 1) % 256) fact s (set page r d)) i
  next_data s n r d fact page i l =
      ap₂ (λ (x y : ℕ). half (in_command op.Program 5 x fact s (set page y d)) i) (rolled_on_lem n r l) (in_page_lem n r l)

  data_played : (s n r : ℕ) (fact : LockFact) (page : List ℕ) (i : Image) (ds : List ℕ) → r < 256
      → played (powered lock) watched (bytes_sent ds) (half (in_command op.Program 5 (256 * n + r) fact s page) i)
      ≡ half (in_command op.Program 5 (256 * n + roll_place r ds) fact s (roll 256 r ds page)) i
  unfolding played flash_after
  data_played s n r fact page i [] l = refl
  data_played s n r fact page i (d ∷ ds) l =
      ap (λ (h : Half). played (powered lock) watched (bytes_sent ds) h) (next_data s n r d fact page i l)
      ∙ data_played s n ((r + 1) % 256) fact (set page r d) i ds (omega arith)

  pub first_played : (s n r d : ℕ) (fact : LockFact) (page : List ℕ) (i : Image) (ds : List ℕ) → r < 256
      → played (powered lock) watched (bytes_sent (d ∷ ds)) (half (in_command op.Program 4 (256 * n + r) fact s page) i)
      ≡ half (in_command op.Program 5 (256 * n + roll_place r (d ∷ ds)) fact s (roll 256 r (d ∷ ds) page)) i
  unfolding played flash_after
  first_played s n r d fact page i ds l =
      ap (λ (h : Half). played (powered lock) watched (bytes_sent ds) h) (next_data s n r d fact page i l)
      ∙ data_played s n ((r + 1) % 256) fact (set page r d) i ds (omega arith)

  -- `des` and `end`
  pub erase_ended : (s p : ℕ) (fact : LockFact) (i : Image) → sector_locked s (sector_of p) ≡ false → enabled s ≡ true
      → played (powered lock) watched (Deselect ∷ End ∷ []) (half (in_command op.SectorErase 4 p fact s blank) i)
      ≡ half (idle (kept_bits s)) (whole_of watched (cycle.SectorErase (sector_of p)) blank s i)
  unfolding played flash_after
  erase_ended s p fact i u e = rw (u, e) refl

  pub chip_ended : (s p : ℕ) (fact : LockFact) (i : Image) → sector_locked s 1 ≡ false → enabled s ≡ true
      → played (powered lock) watched (Deselect ∷ End ∷ []) (half (in_command op.ChipErase 1 p fact s blank) i)
      ≡ half (idle (kept_bits s)) (whole_of watched cycle.ChipErase blank s i)
  unfolding played flash_after
  chip_ended s p fact i u e = rw (u, e) refl

  pub program_ended : (s p : ℕ) (fact : LockFact) (page : List ℕ) (i : Image) → sector_locked s (sector_of p) ≡ false → enabled s ≡ true
      → played (powered lock) watched (Deselect ∷ End ∷ []) (half (in_command op.Program 5 p fact s page) i)
      ≡ half (idle (kept_bits s)) (whole_of watched (cycle.Program (p / 256)) page s i)
  unfolding played flash_after
  program_ended s p fact page i u e = rw (u, e) refl
