-- Believed: Worked cases of rules that the bench sheet does not touch, each outcome taken from document 01 or a request of document 02 by hand; in the words of the sheet (Bench).
use Rattle.std.specs.Prelude.{◌≡◌, true, ◌≢◌, List, [], ◌∷◌, ◌++◌, map, ℕ, ◌+◌, ◌%◌, ◌≤◌, ◌<◌, length, replicate}
use Rattle.record.specs.declared.Board.{Board}
use Rattle.record.specs.declared.Record.{Record}
use Rattle.record.specs.declared.FlashEvent.TheVariants as flash
use Rattle.record.specs.declared.EepromEvent.TheVariants as eeprom
use Rattle.record.specs.declared.LineEvent.TheVariants.{SupplyOn, SupplyOff}
use Rattle.record.specs.declared.Reply.{Reply}
use Rattle.record.specs.declared.Reply.TheVariants.{Silent, Ack, Starts}
use Rattle.meaning.specs.Meaning.{after}
use Rattle.image.specs.Image.{Image, cell_at}
use Rattle.image.specs.Cycles.{erase_all}
use Rattle.record.specs.declared.Chip.TheVariants.{Flash, Eeprom}
use Rattle.times.specs.Times.{Time, never, written, pages_of, first_entry, entries, entry_bytes, times_length}
use Rattle.machine.specs.Machine.{machine_at_start, on_machine}
use Rattle.image.specs.Images.{Images, Kept}
use Rattle.buffers.specs.Buffers.{Buffers, fit}
use Rattle.call.specs.Replay.{Ended, reply_lines, Replays}
use Rattle.record.specs.Records.{on_f, on_e, on_l}
use Rattle.demands.specs.Bench.{board_of, plain, opened, framed, wren, three, two, addressed, stored, cell, eeprom_at, said_on, byte_of, AllHold}

-- ---- 'Flash rules': 'Locked out by BP1 BP0: 00 none, 01 sector 4, 10 sectors 3 and 4, 11 all'; BP1 is bit 3 of the status, BP0 bit 2
-- a sector erase of an address, and a PROGRAM of the byte d there
abbrev pub erase : ℕ → List ℕ
erase address = 0x52 ∷ three address

abbrev pub program : ℕ → ℕ → List ℕ
program address d = 0x02 ∷ (three address ++ (d ∷ []))

-- after WREN, on a board of this status, the frame's `des` starts a cycle, or nothing
abbrev pub Begins : ℕ → List ℕ → Images → Type 0
Begins status bs x = said_on (board_of status) (wren 0 ++ framed 0 bs) x ≡ replicate (4 + length bs) Silent ++ (Starts ∷ [])

abbrev pub Barred : ℕ → List ℕ → Images → Type 0
Barred status bs x = said_on (board_of status) (wren 0 ++ framed 0 bs) x ≡ replicate (5 + length bs) Silent

-- an erase of each sector by its first place, and a PROGRAM at its last
abbrev pub SectorBegins : ℕ → ℕ → ℕ → Images → Type 0
SectorBegins status first last x = Begins status (erase first) x × Begins status (program last 0xa5) x

abbrev pub SectorBarred : ℕ → ℕ → ℕ → Images → Type 0
SectorBarred status first last x = Barred status (erase first) x × Barred status (program last 0xa5) x

-- status 00: none
abbrev pub NoneLocked : Images → Type 0
NoneLocked x =
    SectorBegins 0x00 0x00000 0x07fff x × SectorBegins 0x00 0x08000 0x0ffff x × SectorBegins 0x00 0x10000 0x17fff x × SectorBegins 0x00 0x18000 0x1ffff x

-- status 04: sector 4
abbrev pub OneLocked : Images → Type 0
OneLocked x =
    SectorBegins 0x04 0x00000 0x07fff x × SectorBegins 0x04 0x08000 0x0ffff x × SectorBegins 0x04 0x10000 0x17fff x × SectorBarred 0x04 0x18000 0x1ffff x

-- status 08: sectors 3 and 4
abbrev pub TwoLocked : Images → Type 0
TwoLocked x =
    SectorBegins 0x08 0x00000 0x07fff x × SectorBegins 0x08 0x08000 0x0ffff x × SectorBarred 0x08 0x10000 0x17fff x × SectorBarred 0x08 0x18000 0x1ffff x

-- status 0c: all
abbrev pub AllLocked : Images → Type 0
AllLocked x =
    SectorBarred 0x0c 0x00000 0x07fff x × SectorBarred 0x0c 0x08000 0x0ffff x × SectorBarred 0x0c 0x10000 0x17fff x × SectorBarred 0x0c 0x18000 0x1ffff x

-- 'chip erase with all locked' starts nothing; with one sector free it starts a cycle
abbrev pub ChipErases : Images → Type 0
ChipErases x = Begins 0x00 (0x62 ∷ []) x × Begins 0x04 (0x62 ∷ []) x × Begins 0x08 (0x62 ∷ []) x × Barred 0x0c (0x62 ∷ []) x

-- the line `board STATUS SECTOR 0`
abbrev pub watching : ℕ → ℕ → Board
watching status sector = record { status = status; sector = sector; address = 0 }

-- 'Chip erase clears the unlocked sectors': the flash image after one that ends, by the status and the watched sector
abbrev pub chip_erased : ℕ → ℕ → Images → Image
chip_erased status sector x =
    (after (on_machine (watching status sector)) (wren 0 ++ (framed 0 (0x62 ∷ []) ++ (on_f 0 flash.End ∷ []))) (machine_at_start (watching status sector) x)).images.flash

abbrev pub ChipClears : Images → Type 0
ChipClears x =
    (chip_erased 0x04 3 x ≡ erase_all x.flash)
    × (chip_erased 0x04 4 x ≡ x.flash)
    × (chip_erased 0x08 2 x ≡ erase_all x.flash)
    × (chip_erased 0x08 3 x ≡ x.flash)
    × (chip_erased 0x08 4 x ≡ x.flash)

-- ---- 'EEPROM rules': 'After `sta`, byte 1010 A2 A1 A0 R/W'; 'Another address is silent'
abbrev pub wired_as : ℕ → Board
wired_as address = record { status = 0x00; sector = 1; address = address }

-- what a chip wired so says to an address byte after `sta`
abbrev pub hears : ℕ → Images → ℕ → List Reply
hears wired x b = said_on (wired_as wired) (addressed (b ∷ [])) x

abbrev pub yes : List Reply
yes = Silent ∷ Ack ∷ []

abbrev pub no : List Reply
no = Silent ∷ Silent ∷ []

-- the eight address bytes for writing, for reading, and those that are not 1010 by one bit, with A2 A1 A0 R/W 0000
abbrev pub for_writing : List ℕ
for_writing = 0xa0 ∷ 0xa2 ∷ 0xa4 ∷ 0xa6 ∷ 0xa8 ∷ 0xaa ∷ 0xac ∷ 0xae ∷ []

abbrev pub for_reading : List ℕ
for_reading = 0xa1 ∷ 0xa3 ∷ 0xa5 ∷ 0xa7 ∷ 0xa9 ∷ 0xab ∷ 0xad ∷ 0xaf ∷ []

abbrev pub for_others : List ℕ
for_others = 0x20 ∷ 0xe0 ∷ 0x80 ∷ 0xb0 ∷ []

-- each wired address answers its own byte of the eight, and no other's
abbrev pub Answers : List ℕ → Images → Type 0
Answers bytes x =
    (map (hears 0 x) bytes ≡ yes ∷ no ∷ no ∷ no ∷ no ∷ no ∷ no ∷ no ∷ [])
    × (map (hears 1 x) bytes ≡ no ∷ yes ∷ no ∷ no ∷ no ∷ no ∷ no ∷ no ∷ [])
    × (map (hears 2 x) bytes ≡ no ∷ no ∷ yes ∷ no ∷ no ∷ no ∷ no ∷ no ∷ [])
    × (map (hears 3 x) bytes ≡ no ∷ no ∷ no ∷ yes ∷ no ∷ no ∷ no ∷ no ∷ [])
    × (map (hears 4 x) bytes ≡ no ∷ no ∷ no ∷ no ∷ yes ∷ no ∷ no ∷ no ∷ [])
    × (map (hears 5 x) bytes ≡ no ∷ no ∷ no ∷ no ∷ no ∷ yes ∷ no ∷ no ∷ [])
    × (map (hears 6 x) bytes ≡ no ∷ no ∷ no ∷ no ∷ no ∷ no ∷ yes ∷ no ∷ [])
    × (map (hears 7 x) bytes ≡ no ∷ no ∷ no ∷ no ∷ no ∷ no ∷ no ∷ yes ∷ [])

abbrev pub Wired : Images → Type 0
Wired x = Answers for_writing x × Answers for_reading x × (map (hears 0 x) for_others ≡ replicate 4 no)

-- ---- 'Read: the byte at the counter, which then goes on': at 3fff goes on at 4000
abbrev pub GoesOn : Images → Type 0
GoesOn x =
    said_on plain (addressed (0xa0 ∷ two 0x3fff) ++ addressed (0xa1 ∷ 0x00 ∷ 0x00 ∷ [])) x
    ≡ Silent ∷ Ack ∷ Ack ∷ Ack ∷ Silent ∷ Ack ∷ byte_of (cell_at x.eeprom 0x3fff) ∷ byte_of (cell_at x.eeprom 0x4000) ∷ []

-- ---- request 3/12: 'a cut EEPROM cycle puts the whole page in doubt, 00/ff, not only the bytes sent'
-- one byte, 11, is written to 007f, the last place of its page, with `sto` at t, and the supply goes off in the cycle
abbrev pub page_started : ℕ → List Record
page_started t = addressed (0xa0 ∷ (two 0x007f ++ (0x11 ∷ []))) ++ (on_e t eeprom.Stop ∷ [])

abbrev pub page_cut : List Record
page_cut = page_started 0 ++ (on_l 10 SupplyOff ∷ [])

-- 0040 to 007f are 00/ff, and every place before and behind them is as it was
abbrev pub PageInDoubt : Images → Type 0
PageInDoubt x =
    Kept x →
    ((k : ℕ) → 0x0040 ≤ k → k ≤ 0x007f → eeprom_at page_cut x k ≡ cell 0x00 0xff)
    × ((k : ℕ) → k < 0x0040 → eeprom_at page_cut x k ≡ cell_at x.eeprom k)
    × ((k : ℕ) → 0x007f < k → eeprom_at page_cut x k ≡ cell_at x.eeprom k)

-- the same, and then 22 is written to 0041, to its `end`: 0041 is 22/00, and the page's other places, 007f too, stay 00/ff
abbrev pub page_rewritten : List Record
page_rewritten = page_started 0 ++ (on_l 0 SupplyOff ∷ on_l 0 SupplyOn ∷ stored 0x0041 (0x22 ∷ []))

abbrev pub InPartRewritten : Images → Type 0
InPartRewritten x =
    Kept x →
    (eeprom_at page_rewritten x 0x0041 ≡ cell 0x22 0x00)
    × ((k : ℕ) → 0x0040 ≤ k → k ≤ 0x007f → k ≢ 0x0041 → eeprom_at page_rewritten x k ≡ cell 0x00 0xff)

-- ---- request 1/12: 'the stamp of the last cycle that ended or was cut on it'
-- the time of a page of the watched sector, and of one of the EEPROM, after the records
abbrev pub flash_time : Board → List Record → Images → ℕ → Time
flash_time b rs x n = (after (on_machine b) rs (machine_at_start b x)).times.flash n

abbrev pub eeprom_time : Board → List Record → Images → ℕ → Time
eeprom_time b rs x n = (after (on_machine b) rs (machine_at_start b x)).times.eeprom n

-- every page has this time, whatever its number; page k has it, and no other was written
abbrev pub AllTimed : (ℕ → Time) → Time → Type 0
AllTimed times time = (n : ℕ) → times n ≡ time

abbrev pub OneTimed : (ℕ → Time) → ℕ → Time → Type 0
OneTimed times k time = (times k ≡ time) × ((n : ℕ) → n ≢ k → times n ≡ never)

-- WREN and a frame of these bytes at t, its `des` at u
abbrev pub sent_at : ℕ → ℕ → List ℕ → List Record
sent_at t u bs = wren t ++ (opened t bs ++ (on_f u flash.Deselect ∷ []))

-- a cycle that such a frame starts, its `des` at 20: ended at 30, and cut at 40
abbrev pub ended : List ℕ → List Record
ended bs = sent_at 10 20 bs ++ (on_f 30 flash.End ∷ [])

abbrev pub cut : List ℕ → List Record
cut bs = sent_at 10 20 bs ++ (on_l 40 SupplyOff ∷ [])

-- 'A program touches its page even if no bit changes': whatever d and the images are, the page of 00100 has the stamp of `end`, and no other page was written
abbrev pub ProgramTimed : Images → Type 0
ProgramTimed x =
    (d : ℕ) → OneTimed (flash_time plain (ended (program 0x00100 d)) x) 1 (written 30) × AllTimed (eeprom_time plain (ended (program 0x00100 d)) x) never

-- the page is one of the watched sector: 17f00 is on the last of sector 3, and 00100 on none of it
abbrev pub ProgramWatched : Images → Type 0
ProgramWatched x =
    OneTimed (flash_time (watching 0x00 3) (ended (program 0x17f00 0xa5)) x) 127 (written 30)
    × AllTimed (flash_time (watching 0x00 3) (ended (program 0x00100 0xa5)) x) never

-- one that is cut has the stamp of `off`; one that has only started wrote nothing yet
abbrev pub ProgramCutTimed : Images → Type 0
ProgramCutTimed x =
    OneTimed (flash_time plain (cut (program 0x00100 0xa5)) x) 1 (written 40)
    × AllTimed (flash_time plain (sent_at 10 20 (program 0x00100 0xa5)) x) never

-- a second PROGRAM, ended at 50: of the same page, and of the next
abbrev pub again : ℕ → List Record
again address = ended (program 0x00100 0xa5) ++ (sent_at 35 40 (program address 0xa5) ++ (on_f 50 flash.End ∷ []))

abbrev pub LastTimed : Images → Type 0
LastTimed x =
    OneTimed (flash_time plain (again 0x001ff) x) 1 (written 50)
    × (flash_time plain (again 0x00200) x 1 ≡ written 30)
    × (flash_time plain (again 0x00200) x 2 ≡ written 50)

-- 'an erase every page it reaches': all of the watched sector, or none. Chip erase by the locks: 04 locks sector 4 alone, 08 sectors 3 and 4
abbrev pub ChipEraseTimed : Images → Type 0
ChipEraseTimed x =
    AllTimed (flash_time (watching 0x04 3) (ended (0x62 ∷ [])) x) (written 30)
    × AllTimed (flash_time (watching 0x04 4) (ended (0x62 ∷ [])) x) never
    × AllTimed (flash_time (watching 0x08 2) (ended (0x62 ∷ [])) x) (written 30)
    × AllTimed (flash_time (watching 0x08 3) (ended (0x62 ∷ [])) x) never
    × AllTimed (flash_time (watching 0x04 3) (cut (0x62 ∷ [])) x) (written 40)
    × AllTimed (flash_time (watching 0x04 4) (cut (0x62 ∷ [])) x) never

-- a sector erase of the watched sector, and of another
abbrev pub SectorEraseTimed : Images → Type 0
SectorEraseTimed x =
    AllTimed (flash_time plain (ended (erase 0x00000)) x) (written 30)
    × AllTimed (flash_time plain (cut (erase 0x00000)) x) (written 40)
    × AllTimed (flash_time plain (ended (erase 0x08000)) x) never
    × AllTimed (flash_time plain (cut (erase 0x08000)) x) never

-- WRSR writes no page, nor do `end` and `off` where no cycle runs
abbrev pub NoPageTimed : Images → Type 0
NoPageTimed x =
    AllTimed (flash_time plain (ended (0x01 ∷ 0x0c ∷ [])) x) never
    × AllTimed (flash_time plain (cut (0x01 ∷ 0x0c ∷ [])) x) never
    × AllTimed (flash_time plain (on_f 30 flash.End ∷ on_l 40 SupplyOff ∷ []) x) never
    × AllTimed (eeprom_time plain (on_e 30 eeprom.End ∷ on_l 40 SupplyOff ∷ []) x) never

-- an EEPROM write of one byte to 007f, on page 1, its `sto` at 20: ended at 30, and cut at 40
abbrev pub StoreTimed : Images → Type 0
StoreTimed x =
    OneTimed (eeprom_time plain (page_started 20 ++ (on_e 30 eeprom.End ∷ [])) x) 1 (written 30)
    × OneTimed (eeprom_time plain (page_started 20 ++ (on_l 40 SupplyOff ∷ [])) x) 1 (written 40)
    × AllTimed (eeprom_time plain (page_started 20) x) never
    × AllTimed (flash_time plain (page_started 20 ++ (on_e 30 eeprom.End ∷ on_l 40 SupplyOff ∷ [])) x) never

-- one `off` cuts the cycles of both chips
abbrev pub both_cut : List Record
both_cut = page_started 20 ++ (sent_at 25 30 (program 0x00100 0xa5) ++ (on_l 40 SupplyOff ∷ []))

abbrev pub BothTimed : Images → Type 0
BothTimed x = OneTimed (flash_time plain both_cut x) 1 (written 40) × OneTimed (eeprom_time plain both_cut x) 1 (written 40)

-- 'the flash window's 128 pages and the EEPROM's 512', '640 entries, flash first', of five bytes each
abbrev pub TableLaid : Images → Type 0
TableLaid x =
    (pages_of Flash ≡ 128) × (pages_of Eeprom ≡ 512) × (first_entry Flash ≡ 0) × (first_entry Eeprom ≡ 128) × (entries ≡ 640) × (times_length ≡ 3200)
    × (entry_bytes never ≡ 0 ∷ 0 ∷ 0 ∷ 0 ∷ 0 ∷ [])
    × (entry_bytes (written 0x04030201) ≡ 1 ∷ 0x01 ∷ 0x02 ∷ 0x03 ∷ 0x04 ∷ [])

-- ---- 'Replies and stopping': 'Kinds 2 (unless the mask is ff), 3 and 4 are compared'; 'Bytes and doubt': 'A read is compared on its sure bits only'
-- READ of 00000, with the byte that was recorded
abbrev pub reading : ℕ → List Record
reading so = opened 0 (0x03 ∷ three 0x00000) ++ (on_f 0 (flash.Byte 0x00 so) ∷ [])

-- the reply bytes of its six records, kind, value, mask and match of each: five are silent, the sixth is as told
abbrev pub quiet : List ℕ
quiet = 1 ∷ 0 ∷ 0 ∷ 0 ∷ []

abbrev pub sixth : ℕ → ℕ → ℕ → List ℕ
sixth v m n = quiet ++ quiet ++ quiet ++ quiet ++ quiet ++ (2 ∷ v ∷ m ∷ n ∷ [])

-- where v/m is kept at 00000 and so was recorded, the match is n
abbrev pub Matched : ℕ → ℕ → ℕ → ℕ → Images → Type 0
Matched v m so n x = cell_at x.flash 0x00000 ≡ cell v m → reply_lines (reading so) (said_on plain (reading so) x) ≡ sixth v m n

-- mask ff: nothing to compare, whatever was recorded
abbrev pub NoSureBit : Images → Type 0
NoSureBit x = (so : ℕ) → Matched 0x00 0xff so 0 x

-- mask fe: bit 0 alone decides
abbrev pub OneSureBit : Images → Type 0
OneSureBit x =
    ((so : ℕ) → so % 2 ≡ 0 → Matched 0x00 0xfe so 1 x)
    × ((so : ℕ) → so % 2 ≡ 1 → Matched 0x00 0xfe so 2 x)
    × ((so : ℕ) → so % 2 ≡ 1 → Matched 0x01 0xfe so 1 x)
    × ((so : ℕ) → so % 2 ≡ 0 → Matched 0x01 0xfe so 2 x)

-- ---- 'The trace': 'Text of at most 65,536 bytes'; refusal 2: 'text over 65,536'
-- buffers with these images
abbrev pub lent_with : Images → List ℕ → List ℕ → List ℕ → Buffers
lent_with x times replies result = record { images = x; times = times; replies = replies; result = result }

-- any outcome that the promise of the call admits, where the buffers fit
abbrev pub Limit : Images → Type 0
Limit x =
    (text times replies result : List ℕ) (e : Ended) → fit (lent_with x times replies result) ≡ true → Replays text (lent_with x times replies result) e
    → (length text ≡ 65536 → e.answer ≢ 2) × (length text ≡ 65537 → e.answer ≡ 2)

-- ---- the list
abbrev pub worked : List (Images → Type 0)
worked = NoneLocked ∷ OneLocked ∷ TwoLocked ∷ AllLocked ∷ ChipErases ∷ ChipClears ∷ Wired ∷ GoesOn ∷ PageInDoubt ∷ InPartRewritten ∷ ProgramTimed ∷ ProgramWatched ∷ ProgramCutTimed ∷ LastTimed ∷ ChipEraseTimed ∷ SectorEraseTimed ∷ NoPageTimed ∷ StoreTimed ∷ BothTimed ∷ TableLaid ∷ NoSureBit ∷ OneSureBit ∷ Limit ∷ []

-- they hold of all images
abbrev pub WorkedCases : Type 0
WorkedCases = (x : Images) → AllHold worked x
