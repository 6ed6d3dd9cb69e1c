-- Believed: The sentences of the bench sheet of document 01, each about the rules that demand 3 speaks of (`on_machine`): records played one after the other on a board,
-- from the start, with the lent images x. Cases 11 and 12 say what the demand admits for a trace with stamps.
use Rattle.std.specs.Prelude.{◌≡◌, false, List, [], ◌∷◌, ◌++◌, ℕ, ◌/◌, ◌%◌, length, replicate}
use Rattle.meaning.specs.Meaning.{after, Means}
use Rattle.meaning.specs.Meaning as meaning
use Rattle.meaning.specs.Listing.{said}
use Rattle.record.specs.declared.Board.{Board}
use Rattle.record.specs.declared.Record.{Record}
use Rattle.record.specs.declared.FlashEvent.TheVariants as flash
use Rattle.record.specs.declared.EepromEvent.TheVariants as eeprom
use Rattle.record.specs.declared.LineEvent.TheVariants.{SupplyOn, SupplyOff}
use Rattle.record.specs.Records.{on_f, on_e, on_l}
use Rattle.record.specs.declared.Reply.{Reply}
use Rattle.record.specs.declared.Reply.TheVariants.{Silent, Byte, Ack, Starts}
use Rattle.cell.specs.declared.Cell.{Cell}
use Rattle.cell.specs.Rules.{programmed_cell}
use Rattle.image.specs.Image.{cell_at}
use Rattle.image.specs.Images.{Images}
use Rattle.machine.specs.Machine.{Machine, machine_at_start, on_machine}
use Rattle.call.specs.Replay.{shown}

-- ---- the words of the sheet
-- the line `board STATUS 1 0`: sector 1 is watched, the EEPROM is wired as 0
abbrev pub board_of : ℕ → Board
board_of status = record { status = status; sector = 1; address = 0 }

abbrev pub plain : Board
plain = board_of 0x00

-- a flash frame that sends these bytes: up to its `des`, and with it
abbrev pub xs : ℕ → List ℕ → List Record
xs stamp [] = []
xs stamp (b ∷ bs) = on_f stamp (flash.Byte b 0xff) ∷ xs stamp bs

abbrev pub opened : ℕ → List ℕ → List Record
opened stamp bs = on_f stamp flash.Select ∷ xs stamp bs

abbrev pub framed : ℕ → List ℕ → List Record
framed stamp bs = opened stamp bs ++ (on_f stamp flash.Deselect ∷ [])

abbrev pub wren : ℕ → List Record
wren stamp = framed stamp (0x06 ∷ [])

-- an address as it is sent: three bytes for the flash, two for the EEPROM, high first
abbrev pub three : ℕ → List ℕ
three address = (address / 65536) ∷ (address / 256 % 256) ∷ (address % 256) ∷ []

abbrev pub two : ℕ → List ℕ
two address = (address / 256) ∷ (address % 256) ∷ []

-- PROGRAM at an address of these data bytes: started, ended, and cut by `off`
abbrev pub started : ℕ → List ℕ → List Record
started address ds = wren 0 ++ framed 0 (0x02 ∷ (three address ++ ds))

abbrev pub programmed : ℕ → List ℕ → List Record
programmed address ds = started address ds ++ (on_f 0 flash.End ∷ [])

abbrev pub cut_off : ℕ → List ℕ → List Record
cut_off address ds = started address ds ++ (on_l 0 SupplyOff ∷ [])

-- an EEPROM frame of these bytes up to its `sto`, all acknowledged; and a whole write, to `end`
abbrev pub bytes : List ℕ → List Record
bytes [] = []
bytes (b ∷ bs) = on_e 0 (eeprom.Byte b false) ∷ bytes bs

abbrev pub addressed : List ℕ → List Record
addressed bs = on_e 0 eeprom.Start ∷ bytes bs

abbrev pub stored : ℕ → List ℕ → List Record
stored address ds = addressed (0xa0 ∷ (two address ++ ds)) ++ (on_e 0 eeprom.Stop ∷ on_e 0 eeprom.End ∷ [])

-- value/mask, as the sheet prints it
abbrev pub cell : ℕ → ℕ → Cell
cell v m = record { value = v; mask = m }

-- a place of the flash, and of the EEPROM, after the records
abbrev pub flash_at : List Record → Images → ℕ → Cell
flash_at rs x k = cell_at (after (on_machine plain) rs (machine_at_start plain x)).images.flash k

abbrev pub eeprom_at : List Record → Images → ℕ → Cell
eeprom_at rs x k = cell_at (after (on_machine plain) rs (machine_at_start plain x)).images.eeprom k

-- the replies to the records
abbrev pub said_on : Board → List Record → Images → List Reply
said_on b rs x = said (on_machine b) rs (machine_at_start b x)

-- a kept byte as it is delivered
abbrev pub byte_of : Cell → Reply
byte_of c = Byte c.value c.mask

-- what the demand admits for the trace has the answer n
abbrev pub Answered : List Record → Images → ℕ → Type 0
Answered rs x n = (z : meaning.Answer Machine Reply) × Means (on_machine plain) rs (machine_at_start plain x) z × ((shown plain rs z).answer ≡ n)

-- ---- the sentences
-- 1. ff/00 programmed a5: a5/00
abbrev pub Case1 : Images → Type 0
Case1 x = cell_at x.flash 0x00000 ≡ cell 0xff 0x00 → flash_at (programmed 0x00000 (0xa5 ∷ [])) x 0x00000 ≡ cell 0xa5 0x00

-- 2. Then 3c: 24/00
abbrev pub Case2 : Images → Type 0
Case2 x =
    cell_at x.flash 0x00000 ≡ cell 0xff 0x00 → flash_at (programmed 0x00000 (0xa5 ∷ []) ++ programmed 0x00000 (0x3c ∷ [])) x 0x00000 ≡ cell 0x24 0x00

-- 3. ff/00, 0f cut by `off`: 0f/f0
abbrev pub Case3 : Images → Type 0
Case3 x = cell_at x.flash 0x00000 ≡ cell 0xff 0x00 → flash_at (cut_off 0x00000 (0x0f ∷ [])) x 0x00000 ≡ cell 0x0f 0xf0

-- 4. Then programmed 3c: 0c/30
abbrev pub Case4 : Images → Type 0
Case4 x =
    cell_at x.flash 0x00000 ≡ cell 0xff 0x00 → flash_at (cut_off 0x00000 (0x0f ∷ []) ++ (on_l 0 SupplyOn ∷ programmed 0x00000 (0x3c ∷ []))) x 0x00000 ≡ cell 0x0c 0x30

-- 5. Address fe0005 is 00005
abbrev pub Case5 : Images → Type 0
Case5 x = said_on plain (opened 0 (0x03 ∷ (three 0xfe0005 ++ (0xff ∷ [])))) x ≡ replicate 5 Silent ++ (byte_of (cell_at x.flash 0x00005) ∷ [])

-- 6. PROGRAM at 000ff of 11 22: 22 is for 00000 (and 11 for 000ff; 00100 is as it was)
abbrev pub Case6 : Images → Type 0
Case6 x =
    (flash_at (programmed 0x000ff (0x11 ∷ 0x22 ∷ [])) x 0x00000 ≡ programmed_cell (cell_at x.flash 0x00000) 0x22)
    × (flash_at (programmed 0x000ff (0x11 ∷ 0x22 ∷ [])) x 0x000ff ≡ programmed_cell (cell_at x.flash 0x000ff) 0x11)
    × (flash_at (programmed 0x000ff (0x11 ∷ 0x22 ∷ [])) x 0x00100 ≡ cell_at x.flash 0x00100)

-- 7. 257 data bytes from 00000: the last is for 00000
abbrev pub Case7 : Images → Type 0
Case7 x =
    (ds : List ℕ) (last : ℕ) → length ds ≡ 256 → flash_at (programmed 0x00000 (ds ++ (last ∷ []))) x 0x00000 ≡ programmed_cell (cell_at x.flash 0x00000) last

-- 8. Status 08: sector 3 locked, 2 not (an erase there starts nothing, and a cycle)
abbrev pub Case8 : Images → Type 0
Case8 x =
    (said_on (board_of 0x08) (wren 0 ++ framed 0 (0x52 ∷ three 0x10000)) x ≡ replicate 9 Silent)
    × (said_on (board_of 0x08) (wren 0 ++ framed 0 (0x52 ∷ three 0x08000)) x ≡ replicate 8 Silent ++ (Starts ∷ []))

-- 9. EEPROM write at 003f of two bytes: the second is for 0000 (and the first for 003f; 0040 is as it was)
abbrev pub Case9 : Images → Type 0
Case9 x =
    (eeprom_at (stored 0x003f (0x11 ∷ 0x22 ∷ [])) x 0x0000 ≡ cell 0x22 0x00)
    × (eeprom_at (stored 0x003f (0x11 ∷ 0x22 ∷ [])) x 0x003f ≡ cell 0x11 0x00)
    × (eeprom_at (stored 0x003f (0x11 ∷ 0x22 ∷ [])) x 0x0040 ≡ cell_at x.eeprom 0x0040)

-- 10. Read at 7fff goes on at 0000
abbrev pub Case10 : Images → Type 0
Case10 x =
    said_on plain (addressed (0xa0 ∷ two 0x7fff) ++ addressed (0xa1 ∷ 0x00 ∷ 0x00 ∷ [])) x
    ≡ Silent ∷ Ack ∷ Ack ∷ Ack ∷ Silent ∷ Ack ∷ byte_of (cell_at x.eeprom 0x7fff) ∷ byte_of (cell_at x.eeprom 0x0000) ∷ []

-- 11. WREN's `des` and `off` at one stamp: settled
abbrev pub Case11 : Images → Type 0
Case11 x = Answered (opened 10 (0x06 ∷ []) ++ (on_f 20 flash.Deselect ∷ on_l 20 SupplyOff ∷ [])) x 0

-- 12. The same with a valid PROGRAM: 7
abbrev pub Case12 : Images → Type 0
Case12 x = Answered (wren 10 ++ (opened 20 (0x02 ∷ (three 0x00000 ++ (0xa5 ∷ []))) ++ (on_f 30 flash.Deselect ∷ on_l 30 SupplyOff ∷ []))) x 7

-- ---- the sheet
abbrev pub sheet : List (Images → Type 0)
sheet = Case1 ∷ Case2 ∷ Case3 ∷ Case4 ∷ Case5 ∷ Case6 ∷ Case7 ∷ Case8 ∷ Case9 ∷ Case10 ∷ Case11 ∷ Case12 ∷ []

-- all sentences of a list hold
unfoldable pub AllHold : List (Images → Type 0) → Images → Type 0
AllHold [] x = Unit {0}
AllHold (c ∷ cs) x = c x × AllHold cs x
