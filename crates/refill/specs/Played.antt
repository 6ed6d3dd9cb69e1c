-- Believed: Claims 25 and 26 of every list (document 02, request 6/12: 'by the replay's rules'): what a list of entries makes of the chip, and how many cycles it takes, is what the machine does with its records.
use Rattle.std.specs.Prelude.{ℕ, suc, ◌+◌, ◌*◌, ◌≤◌, ◌<◌, ◌≡◌, true, List, length, get_or}
use Rattle.law.specs.Words.{All}
use Rattle.meaning.specs.Meaning.{F, after, replies}
use Rattle.page.specs.Geometry.{flash_sector, flash_sectors}
use Rattle.record.specs.declared.Board.{Board}
use Rattle.record.specs.declared.Record.{Record}
use Rattle.flash.specs.Step.{start_of}
use Rattle.image.specs.Image.{cell_at}
use Rattle.machine.specs.Machine.{Machine, on_machine}
use Rattle.fewest.specs.Entries.{Entry, sure, byte_after_all, cycles}
use Rattle.fewest.specs.Call.{Left, Plans}
use Rattle.refill.specs.Records.{events_of_all, Bear, Shows}
use Rattle.refill.specs.Refill.{Bytes, Sized, Read, of_kind, count}

-- records of these entries on a machine with sector w watched, whose flash is idle with that status, the supply on, and whose image shows the present bytes
pub record Run (status : ℕ) (present : List ℕ) (os : List Entry) (w : ℕ) : Type 0 where
  pub board : Board
  pub watched : board.sector ≡ suc w
  pub machine : Machine
  pub begin : machine.controls.flash ≡ start_of status
  pub on : machine.controls.lines.supply ≡ true
  pub shows : Shows w machine.images.flash present
  pub records : List Record
  pub bear : Bear records (events_of_all os)

-- how it ends
abbrev pub ending : (status : ℕ) (present : List ℕ) (os : List Entry) (w : ℕ) → Run status present os w → Machine
ending status present os w r = after (on_machine r.board) r.records r.machine

-- how many replies are of this kind
abbrev pub counted : (status : ℕ) (present : List ℕ) (os : List Entry) (w : ℕ) → Run status present os w → ℕ → ℕ
counted status present os w r kind = count (of_kind kind) (replies (on_machine r.board) F r.records r.machine)

-- 25. each byte of the watched sector is as the list leaves it, without doubt; just the entries that start by the definition start a cycle, and end it. So it is of every list, also with entries that start nothing
abbrev pub EntriesPlayed : Type 0
EntriesPlayed =
    (status : ℕ) (present : List ℕ) (os : List Entry) → All Sized os → (w : ℕ) → w < flash_sectors → (r : Run status present os w)
    → ((q : ℕ) → q < flash_sector → cell_at (ending status present os w r).images.flash q ≡ sure (byte_after_all status os (flash_sector * w + q) (get_or present (flash_sector * w + q) 0)))
    × (counted status present os w r 5 ≡ cycles status os) × (counted status present os w r 6 ≡ cycles status os)

-- 26. every list of entries whose records refill the chip on the machine, each sector watched in turn, starts at least as many cycles as the plan has entries
abbrev pub FewestPlayed : Type 0
FewestPlayed =
    (status : ℕ) (present wanted list result : List ℕ) → status < 256 → Bytes present → Bytes wanted
    → (left : Left) → Plans status present wanted list result left → left.answer ≡ 0 → (os : List Entry) → Read left os
    → (other : List Entry) → All Sized other
    → ((w : ℕ) → w < flash_sectors → (r : Run status present other w) × Shows w (ending status present other w r).images.flash wanted)
    → (w : ℕ) → w < flash_sectors → (r : Run status present other w) → length os ≤ counted status present other w r 5
