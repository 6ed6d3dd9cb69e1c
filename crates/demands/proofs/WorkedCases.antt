-- Why the worked cases hold: the controls and the times by computing, a cut page by its law, a byte that is compared by its last bit, the limit by the ground of refusal 2.
use mathlib.Core.Path.{◌≡◌, refl, ap, ◌∙◌}
use mathlib.Core.Bool.{false}
use mathlib.Core.Logic.{◌≢◌}
use mathlib.Core.List.{List, [], ◌∷◌}
use Prim.Native.Nat.{ℕ, ◌+◌, ◌%◌}
use native.Mathlib.Omega.{arith}
use lib.Bits.{bit_and, and_mask}
use lib.Dec.{eqb}
use lib.ListN.{set}
use borrow.Author.Tests.{le-ltb, ne_eqb}
use Rattle.law.specs.Words.{pick}
use Rattle.meaning.specs.Meaning.{after}
use Rattle.meaning.specs.Listing.{said}
use Rattle.record.specs.declared.Reply.TheVariants.{Silent}
use Rattle.record.specs.Replies.{match_number}
use Rattle.cell.specs.declared.Cell.{Cell}
use Rattle.page.specs.Rolling.{sent_place}
use Rattle.record.specs.declared.Chip.{Chip}
use Rattle.image.specs.Images.{Images, kept_bytes}
use Rattle.image.specs.Cycles.{cut_store_page}
use Rattle.image.proofs.AtPlace.{store_page_at, store_page_unsent}
use Rattle.image.proofs.Keeping.{spans_cut_store_page}
use Rattle.times.specs.Times.{never, written}
use Rattle.eeprom.specs.Chip as eeprom_chip
use Rattle.controls.specs.Play.{moved_of}
use Rattle.machine.specs.Effects.{flash_after, eeprom_after}
use Rattle.machine.proofs.EepromWritten.{cut_in_page, cut_elsewhere}
use Rattle.machine.specs.Replies.{delivered, agrees_if, compared}
use Rattle.machine.specs.Machine.{play_on, says_on}
use Rattle.call.specs.Replay.{reply_lines}
use Rattle.demands.specs.Bench.{byte_of, AllHold}
use Rattle.demands.specs.Worked.{reading, NoneLocked, OneLocked, TwoLocked, AllLocked, ChipErases, ChipClears, Wired, GoesOn, PageInDoubt, InPartRewritten, ProgramTimed, ProgramWatched, ProgramCutTimed, LastTimed, ChipEraseTimed, SectorEraseTimed, NoPageTimed, StoreTimed, BothTimed, TableLaid, sixth, Matched, NoSureBit, OneSureBit, Limit, WorkedCases}
use Rattle.demands.proofs.FirstBadLine.{too_long}

-- the reply bytes of a READ, by the byte that is kept
abbrev read_as : ℕ → Cell → List ℕ
read_as so c = reply_lines (reading so) (Silent ∷ Silent ∷ Silent ∷ Silent ∷ Silent ∷ byte_of c ∷ [])

-- bit 0 of a byte is its remainder by 2
by_last : (v so n : ℕ) → match_number (agrees_if (eqb (so % 2) (v % 2))) ≡ n → match_number (agrees_if (eqb (bit_and so 1) (bit_and v 1))) ≡ n
by_last v so n h =
    let a : bit_and so 1 ≡ so % 2 = and_mask so 1 in
    let b : bit_and v 1 ≡ v % 2 = and_mask v 1 in
    rw (a, b) h

-- a page that is not the one written
off : (n k t : ℕ) → n ≢ k → pick (eqb n k) (written t) never ≡ never
off n k t o = simp (ne_eqb n k o)

module _ (x : Images) where
  none_locked : NoneLocked x
  unfolding said play_on says_on moved_of delivered flash_after eeprom_after
  none_locked = ((refl, refl), (refl, refl), (refl, refl), (refl, refl))

  one_locked : OneLocked x
  unfolding said play_on says_on moved_of delivered flash_after eeprom_after
  one_locked = ((refl, refl), (refl, refl), (refl, refl), (refl, refl))

  two_locked : TwoLocked x
  unfolding said play_on says_on moved_of delivered flash_after eeprom_after
  two_locked = ((refl, refl), (refl, refl), (refl, refl), (refl, refl))

  all_locked : AllLocked x
  unfolding said play_on says_on moved_of delivered flash_after eeprom_after
  all_locked = ((refl, refl), (refl, refl), (refl, refl), (refl, refl))

  chip_erases : ChipErases x
  unfolding said play_on says_on moved_of delivered flash_after eeprom_after
  chip_erases = (refl, refl, refl, refl)

  chip_clears : ChipClears x
  unfolding after play_on moved_of flash_after eeprom_after
  chip_clears = (refl, refl, refl, refl, refl)

  wired : Wired x
  unfolding said play_on says_on moved_of delivered flash_after eeprom_after
  wired = ((refl, refl, refl, refl, refl, refl, refl, refl), (refl, refl, refl, refl, refl, refl, refl, refl), refl)

  goes_on : GoesOn x
  unfolding said play_on says_on moved_of delivered flash_after eeprom_after
  goes_on = refl

  page_in_doubt : PageInDoubt x
  unfolding after play_on moved_of flash_after eeprom_after
  page_in_doubt kept = (
    (λ k l h. cut_in_page 0x007f (0x11 ∷ []) x.eeprom k (omega arith) (kept Chip.Eeprom) (omega arith)),
    (λ k l. cut_elsewhere 0x007f (0x11 ∷ []) x.eeprom k (λ e. omega arith)),
    λ k l. cut_elsewhere 0x007f (0x11 ∷ []) x.eeprom k (λ e. omega arith),
  )

  in_part_rewritten : InPartRewritten x
  unfolding after play_on moved_of flash_after eeprom_after
  in_part_rewritten kept =
      let page : List ℕ = set eeprom_chip.blank 1 0x22 in
      let fit = spans_cut_store_page x.eeprom (kept_bytes Chip.Eeprom) 1 ∙ kept Chip.Eeprom in (
        store_page_at (cut_store_page 1 x.eeprom) (kept_bytes Chip.Eeprom) fit 1 1 1 page (omega arith) 1 (omega arith) refl,
        λ k l h n.
            let unsent : sent_place 64 1 1 (k % 64) ≡ false = le-ltb ((k % 64 + 63) % 64) 1 (omega arith) in
            store_page_unsent 1 1 1 page (cut_store_page 1 x.eeprom) k unsent ∙ (page_in_doubt kept).0 k l h,
      )

  program_timed : ProgramTimed x
  unfolding after play_on moved_of
  program_timed d = ((refl, λ n o. off n 1 30 o), λ n. refl)

  program_watched : ProgramWatched x
  unfolding after play_on moved_of
  program_watched = ((refl, λ n o. off n 127 30 o), λ n. refl)

  program_cut_timed : ProgramCutTimed x
  unfolding after play_on moved_of
  program_cut_timed = ((refl, λ n o. off n 1 40 o), λ n. refl)

  last_timed : LastTimed x
  unfolding after play_on moved_of
  last_timed = ((refl, λ n o. ap (pick (eqb n 1) (written 50)) (off n 1 30 o) ∙ off n 1 50 o), refl, refl)

  chip_erase_timed : ChipEraseTimed x
  unfolding after play_on moved_of
  chip_erase_timed = ((λ n. refl), (λ n. refl), (λ n. refl), (λ n. refl), (λ n. refl), λ n. refl)

  sector_erase_timed : SectorEraseTimed x
  unfolding after play_on moved_of
  sector_erase_timed = ((λ n. refl), (λ n. refl), (λ n. refl), λ n. refl)

  no_page_timed : NoPageTimed x
  unfolding after play_on moved_of
  no_page_timed = ((λ n. refl), (λ n. refl), (λ n. refl), λ n. refl)

  store_timed : StoreTimed x
  unfolding after play_on moved_of
  store_timed = ((refl, λ n o. off n 1 30 o), (refl, λ n o. off n 1 40 o), (λ n. refl), λ n. refl)

  both_timed : BothTimed x
  unfolding after play_on moved_of
  both_timed = ((refl, λ n o. off n 1 40 o), (refl, λ n o. off n 1 40 o))

  table_laid : TableLaid x
  table_laid = (refl, refl, refl, refl, refl, refl, refl, refl)

  no_sure_bit : NoSureBit x
  unfolding said play_on says_on moved_of delivered flash_after eeprom_after reply_lines compared
  no_sure_bit so h = ap (read_as so) h

  sure_as : (v so n : ℕ) → match_number (agrees_if (eqb (so % 2) (v % 2))) ≡ n → Matched v 0xfe so n x
  unfolding said play_on says_on moved_of delivered flash_after eeprom_after reply_lines compared
  sure_as v so n k h = ap (read_as so) h ∙ ap (sixth v 0xfe) (by_last v so n k)

  one_sure_bit : OneSureBit x
  one_sure_bit = (
    λ so e. sure_as 0x00 so 1 (ap (λ (b : ℕ). match_number (agrees_if (eqb b 0))) e),
    λ so e. sure_as 0x00 so 2 (ap (λ (b : ℕ). match_number (agrees_if (eqb b 0))) e),
    λ so e. sure_as 0x01 so 1 (ap (λ (b : ℕ). match_number (agrees_if (eqb b 1))) e),
    λ so e. sure_as 0x01 so 2 (ap (λ (b : ℕ). match_number (agrees_if (eqb b 1))) e),
  )

  limit : Limit x
  limit text times replies result e f p = (
    λ l a. let w = ((too_long p).0 a).1 in omega arith,
    λ l. (too_long p).1 (f, omega arith),
  )

-- all of them
pub worked_cases : WorkedCases
unfolding AllHold
worked_cases x = (none_locked x, (one_locked x, (two_locked x, (all_locked x, (chip_erases x, (chip_clears x, (wired x, (goes_on x, (page_in_doubt x, (in_part_rewritten x, (program_timed x, (program_watched x, (program_cut_timed x, (last_timed x, (chip_erase_timed x, (sector_erase_timed x, (no_page_timed x, (store_timed x, (both_timed x, (table_laid x, (no_sure_bit x, (one_sure_bit x, (limit x, tt)))))))))))))))))))))))
