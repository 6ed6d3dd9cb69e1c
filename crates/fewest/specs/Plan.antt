-- The plan: which sectors are erased and which pages programmed, by the facts about each page and sector; what the call makes of it (document 02, request 6/12).
use Rattle.std.specs.Prelude.{ℕ, suc, ◌+◌, ◌*◌, ◌/◌, ◌%◌, Bool, true, false, not, List, [], ◌∷◌, ◌++◌, eqb, ltb, length, get_or}
use Rattle.std.specs.Int.Bits.{bit_and}
use Rattle.law.specs.Words.{pick}
use Rattle.page.specs.Geometry.{flash_page, flash_sector, flash_sectors, flash_size, sector_pages, chip_pages}
use Rattle.record.specs.declared.PlanAnswer.{PlanAnswer}
use Rattle.record.specs.declared.PlanAnswer.TheVariants.{Planned, Unfit, Locked, NoRoom}
use Rattle.record.specs.Answers.{plan_answer_number}
use Rattle.record.specs.Lengths.{plan_result_length}
use Rattle.buffers.specs.Buffers.{plan_result_after}
use Rattle.flash.specs.Code.{sector_locked}
use Rattle.fewest.specs.declared.Test.{Test}
use Rattle.fewest.specs.declared.Test.TheVariants.{Differs, Rises, Unblank}
use Rattle.fewest.specs.Below.{any_below, sum_below, count_below, joined_below}
use Rattle.fewest.specs.Entries.{Entry, sector_erase, chip_erase, program}
use Rattle.fewest.specs.Fewest.{page_of, spelled_list}
use Rattle.fewest.specs.Call.{Left, left_as, laid_over}

-- tests of a place by its present byte and its wanted one: they differ; a bit has to go from 0 to 1, which only an erase does; the wanted one is not ff, so an erase does not leave it
abbrev pub holds : Test → ℕ → ℕ → Bool
holds Differs v w = not (eqb v w)
holds Rises v w = not (eqb (bit_and v w) w)
holds Unblank v w = not (eqb w 255)

module _ (present wanted : List ℕ) where
  -- does the test hold of any of `count` places from `first` on?
  unfoldable pub any_in : Test → ℕ → ℕ → Bool
  any_in t first count = any_below count (λ q. holds t (get_or present (first + q) 0) (get_or wanted (first + q) 0))

  -- of any place of page n; of sector s, counted from 0
  abbrev pub in_page : Test → ℕ → Bool
  in_page t n = any_in t (flash_page * n) flash_page

  abbrev pub in_sector : Test → ℕ → Bool
  in_sector t s = any_in t (flash_sector * s) flash_sector

  -- how many pages of sector s the test holds of
  abbrev pub pages_of : Test → ℕ → ℕ
  pages_of t s = count_below sector_pages (λ j. in_page t (sector_pages * s + j))

  -- the erase of sector s, where a bit has to rise in it
  abbrev pub erase_of : ℕ → List Entry
  erase_of s = pick (in_sector Rises s) (sector_erase (suc s) ∷ []) []

  unfoldable pub erases : Bool → List Entry
  erases true = chip_erase ∷ []
  erases false = joined_below flash_sectors erase_of

  -- how many these are
  unfoldable pub erases_in : Bool → ℕ
  erases_in true = 1
  erases_in false = count_below flash_sectors (in_sector Rises)

  -- the program of page n where the test holds of it, and those of sector s
  abbrev pub program_if : Test → ℕ → List Entry
  program_if t n = pick (in_page t n) (program n (page_of wanted n) ∷ []) []

  unfoldable pub sector_programs : Test → ℕ → List Entry
  sector_programs t s = joined_below sector_pages (λ j. program_if t (sector_pages * s + j))

  module _ (status : ℕ) where
    -- is sector s erased? By the chip's erase every unlocked one, without it those where a bit has to rise
    abbrev pub erased : Bool → ℕ → Bool
    erased true s = not (sector_locked status (suc s))
    erased false s = in_sector Rises s

    -- of an erased sector the pages that are not to be all ff are programmed, of another those that differ
    abbrev pub test_in : Bool → ℕ → Test
    test_in chip s = pick (erased chip s) Unblank Differs

    abbrev pub chosen : Bool → ℕ → Bool
    chosen chip n = in_page (test_in chip (n / sector_pages)) n

    abbrev pub program_of : Bool → ℕ → List Entry
    program_of chip n = program_if (test_in chip (n / sector_pages)) n

    unfoldable pub programs : Bool → List Entry
    programs chip = joined_below chip_pages (program_of chip)

    unfoldable pub programs_in : Bool → ℕ
    programs_in chip = sum_below flash_sectors (λ s. pages_of (test_in chip s) s)

    unfoldable pub plan_by : Bool → List Entry
    plan_by chip = erases chip ++ programs chip

    -- 'among equal numbers, prefer one without chip erase'
    unfoldable pub by_chip : Bool
    by_chip = ltb (erases_in true + programs_in true) (erases_in false + programs_in false)

    -- the plan
    unfoldable pub plan_of : List Entry
    plan_of = plan_by by_chip

    -- refusal 15: 'a byte that differs stands in a locked sector'
    unfoldable pub differs_locked : Bool
    differs_locked = any_below flash_sectors (λ s. pick (sector_locked status (suc s)) (in_sector Differs s) false)

-- ---- the call

-- only bits 7, 3 and 2
abbrev pub status_fits : ℕ → Bool
status_fits status = pick (eqb (status % 4) 0) (eqb (status / 16 % 8) 0) false

-- none of the grounds of `Unfit`, by the three lengths and the status
abbrev pub fitting : ℕ → ℕ → ℕ → ℕ → Bool
fitting status present wanted result =
    pick (eqb present flash_size) (pick (eqb wanted flash_size) (pick (eqb result plan_result_length) (status_fits status) false) false) false

-- the answer, the number, and the list as it is left
pub record Made : Type 0 where
  pub answer : PlanAnswer
  pub number : ℕ
  pub list : List ℕ

abbrev pub made_as : PlanAnswer → ℕ → List ℕ → Made
made_as answer number list = record { answer = answer; number = number; list = list }

unfoldable pub laid : List Entry → List ℕ → Made
laid os list =
    pick (ltb (length list) (length (spelled_list os))) (made_as NoRoom 0 list) (made_as Planned (length os) (laid_over (spelled_list os) list))

unfoldable pub made : ℕ → List ℕ → List ℕ → List ℕ → ℕ → Made
made status present wanted list result =
    pick (fitting status (length present) (length wanted) result)
    (pick (differs_locked present wanted status) (made_as Locked 0 list) (laid (plan_of present wanted status) list))
    (made_as Unfit 0 list)

unfoldable pub called : ℕ → List ℕ → List ℕ → List ℕ → List ℕ → Left
called status present wanted list result =
    let m = made status present wanted list (length result) in
    left_as (plan_answer_number m.answer) m.list (plan_result_after (plan_answer_number m.answer) m.number result)
