-- Believed: Claims 24 to 29 (document 02, request 6/12): what the caller of the plan gets, of any outcome that the promise of the exported call admits. The reasons stand in proofs/.
use Rattle.std.specs.Prelude.{ℕ, suc, ◌+◌, ◌≤◌, ◌<◌, ◌≡◌, true, ◌⊎◌, List, [], ◌∷◌, ◌++◌, eqb, length, get_or, take}
use Rattle.law.specs.Words.{All, pick}
use Rattle.meaning.specs.Meaning.{F, after, replies}
use Rattle.page.specs.Geometry.{flash_page, flash_sectors, chip_pages}
use Rattle.record.specs.declared.Board.{Board}
use Rattle.record.specs.declared.Record.{Record}
use Rattle.record.specs.declared.Reply.{Reply}
use Rattle.record.specs.declared.PlanAnswer.TheVariants.{Unfit, Locked, NoRoom}
use Rattle.record.specs.Replies.{reply_kind}
use Rattle.record.specs.Word.{word}
use Rattle.field.specs.Decimal.{largest}
use Rattle.flash.specs.Step.{start_of}
use Rattle.machine.specs.Machine.{Machine, on_machine}
use Rattle.fewest.specs.Entries.{Entry, sector_erase, chip_erase, program, Yields, cycles, has, is_chip_erase}
use Rattle.fewest.specs.Fewest.{IsPlan, DiffersLocked, spelled_list, most_room}
use Rattle.fewest.specs.Call.{Left, left_as, laid_over, Fits, refused_with, Plans}
use Rattle.refill.specs.Records.{events_of_all, Bear, Shows}

-- a content that is lent has bytes; the status is a byte too
abbrev pub Bytes : List ℕ → Type 0
Bytes content = (k : ℕ) → get_or content k 0 < 256

-- sectors and pages are the chip's, and a program has a whole page
abbrev pub Sized : Entry → Type 0
Sized (sector_erase s) = (1 ≤ s) × (s ≤ flash_sectors)
Sized chip_erase = Unit {0}
Sized (program n bytes) = (n < chip_pages) × (length bytes ≡ flash_page)

-- the entries os are what a caller reads off a plan: as many as the result's number, spelled one after the other from the list's start
pub record Read (left : Left) (os : List Entry) : Type 0 where
  pub number : left.result ≡ word 0 ++ word (length os)
  pub number_fits : length os ≤ largest
  pub spelled : take (length (spelled_list os)) left.list ≡ spelled_list os
  pub sized : All Sized os

-- is the reply of this kind? 5 is `starts`, 6 `ends`
abbrev pub of_kind : ℕ → Reply → ℕ
of_kind kind r = pick (eqb (reply_kind r) kind) 1 0

-- how many replies are
unfoldable pub count : (Reply → ℕ) → List Reply → ℕ
count f [] = 0
count f (r ∷ rs) = f r + count f rs

module _ (status : ℕ) (present wanted list result : List ℕ) (left : Left) where
  -- 24. executed by the rules of cell and flash, the entries read off the list turn present into wanted
  abbrev pub PlanYields : Type 0
  PlanYields = (os : List Entry) → Read left os → Yields status present wanted os

  -- 25. records of the entries, whatever their stamps and what was recorded as sent back, played by the replay's rules from a flash that is idle with that status, the supply on, with any sector
  -- watched, whose image shows the present bytes: as many cycles start as the number says, and end; the flash is then as before, and the image shows the wanted bytes, mask 00
  pub record Replayed (os : List Entry) (b : Board) (m : Machine) (rs : List Record) : Type 0 where
    pub start : count (of_kind 5) (replies (on_machine b) F rs m) ≡ length os
    pub end : count (of_kind 6) (replies (on_machine b) F rs m) ≡ length os
    pub idle : (after (on_machine b) rs m).controls.flash ≡ start_of status
    pub shows : (w : ℕ) → b.sector ≡ suc w → Shows w (after (on_machine b) rs m).images.flash wanted

  abbrev pub PlanReplays : Type 0
  PlanReplays =
      (os : List Entry) → Read left os
      → (b : Board) (w : ℕ) → w < flash_sectors → b.sector ≡ suc w
      → (m : Machine) → m.controls.flash ≡ start_of status → m.controls.lines.supply ≡ true → Shows w m.images.flash present
      → (rs : List Record) → Bear rs (events_of_all os) → Replayed os b m rs

  -- 26. every list that yields wanted has at least as many entries: of any data, any length, in any order, also with entries that start nothing; these are not counted even
  abbrev pub PlanFewest : Type 0
  PlanFewest = (os : List Entry) → Read left os → (other : List Entry) → Yields status present wanted other → (length os ≤ length other) × (length os ≤ cycles status other)

  -- 27. with a chip erase only if every shortest list has one
  abbrev pub PlanNoChip : Type 0
  PlanNoChip =
      (os : List Entry) → Read left os → has is_chip_erase os ≡ true
      → (other : List Entry) → Yields status present wanted other → ((third : List Entry) → Yields status present wanted third → length other ≤ length third)
      → has is_chip_erase other ≡ true

  -- 28. the exact ground of each answer and all that it leaves; with 0 one list of entries can be read off the list, which is the plan, and behind it the list is as it was lent
  pub record PlanGrounds : Type 0 where
    pub answers : (left.answer ≡ 0) ⊎ ((left.answer ≡ 14) ⊎ ((left.answer ≡ 15) ⊎ (left.answer ≡ 16)))
    pub only_14 : left.answer ≡ 14 → Fits status present wanted list result → ⊥
    pub when_14 : (Fits status present wanted list result → ⊥) → left ≡ refused_with status present wanted list result Unfit
    pub only_15 : left.answer ≡ 15 → Fits status present wanted list result × DiffersLocked status present wanted
    pub when_15 : Fits status present wanted list result → DiffersLocked status present wanted → left ≡ refused_with status present wanted list result Locked
    pub only_16 : left.answer ≡ 16
        → Fits status present wanted list result × (DiffersLocked status present wanted → ⊥)
        × ((os : List Entry) → IsPlan status present wanted os → length list < length (spelled_list os))
    pub when_16 : Fits status present wanted list result → (DiffersLocked status present wanted → ⊥)
        → (os : List Entry) → IsPlan status present wanted os → length list < length (spelled_list os) → left ≡ refused_with status present wanted list result NoRoom
    pub only_0 : left.answer ≡ 0
        → Fits status present wanted list result × (DiffersLocked status present wanted → ⊥)
        × ((os : List Entry) × IsPlan status present wanted os × Read left os × (length (spelled_list os) ≤ length list) × (left.list ≡ laid_over (spelled_list os) list)
        × ((other : List Entry) → Read left other → other ≡ os))
    pub when_0 : Fits status present wanted list result → (DiffersLocked status present wanted → ⊥)
        → (os : List Entry) → IsPlan status present wanted os → length (spelled_list os) ≤ length list → left.answer ≡ 0
    -- only one list is what a plan must be
    pub one_plan : (DiffersLocked status present wanted → ⊥) → (os other : List Entry) → IsPlan status present wanted os → IsPlan status present wanted other → os ≡ other
    -- and there is no other outcome
    pub determined : (other : Left) → Plans status present wanted list result other → left ≡ other

  -- 29. 'The number given is .. 0 for equal contents', and the list is as it was lent; a list of 133,124 bytes has room for every plan
  pub record PlanRoom : Type 0 where
    pub equal : Fits status present wanted list result → present ≡ wanted → left ≡ left_as 0 list (word 0 ++ word 0)
    pub room : Fits status present wanted list result → (DiffersLocked status present wanted → ⊥) → most_room ≤ length list → left.answer ≡ 0

  -- what a call leaves, all of it
  pub record PlanClaims : Type 0 where
    pub yields : left.answer ≡ 0 → PlanYields
    pub replays : left.answer ≡ 0 → PlanReplays
    pub fewest : left.answer ≡ 0 → PlanFewest
    pub no_chip : left.answer ≡ 0 → PlanNoChip
    pub grounds : PlanGrounds
    pub roomy : PlanRoom

abbrev pub AllPlanClaims : Type 0
AllPlanClaims =
    (status : ℕ) (present wanted list result : List ℕ) → status < 256 → Bytes present → Bytes wanted
    → (left : Left) → Plans status present wanted list result left → PlanClaims status present wanted list result left

-- 28. and for whatever is lent there is an outcome
abbrev pub SomePlan : Type 0
SomePlan = (status : ℕ) (present wanted list result : List ℕ) → status < 256 → Bytes present → Bytes wanted → (left : Left) × Plans status present wanted list result left
