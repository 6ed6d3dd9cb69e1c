-- Believed: What goes over the wires for a list of entries (document 02, request 6/12), and what a watched sector shows.
use Rattle.std.specs.Prelude.{ℕ, ◌+◌, ◌*◌, ◌<◌, ◌≡◌, true, List, [], ◌∷◌, ◌++◌, get_or}
use Rattle.page.specs.Geometry.{flash_sector}
use Rattle.record.specs.declared.Event.{Event}
use Rattle.record.specs.declared.Event.TheVariants as event
use Rattle.record.specs.declared.FlashEvent.{FlashEvent}
use Rattle.record.specs.declared.FlashEvent.TheVariants.{Select, Byte, Cut, Deselect, End}
use Rattle.record.specs.declared.Record.{Record}
use Rattle.image.specs.Image.{Image, spans, cell_at}
use Rattle.fewest.specs.Entries.{Entry, sector_erase, chip_erase, program, sure}
use Rattle.fewest.specs.Fewest.{address, first_place}

-- ---- the records

-- bytes sent to the flash; what it sends back meanwhile is told as 0 here, and not looked at (`SameSent`)
abbrev pub bytes_sent : List ℕ → List FlashEvent
bytes_sent [] = []
bytes_sent (b ∷ bs) = Byte b 0 ∷ bytes_sent bs

-- a frame without its `des`, and with it
abbrev pub opened : List ℕ → List FlashEvent
opened bs = Select ∷ bytes_sent bs

abbrev pub framed : List ℕ → List FlashEvent
framed bs = opened bs ++ (Deselect ∷ [])

-- 'WREN goes before each cycle': 0000 0110
abbrev pub wren : List FlashEvent
wren = framed (0b00000110 ∷ [])

-- an entry's instruction: op-code, address, data
abbrev pub instruction_of : Entry → List ℕ
instruction_of (sector_erase s) = 0b01010010 ∷ address (first_place (sector_erase s))
instruction_of chip_erase = 0b01100010 ∷ []
instruction_of (program n bytes) = 0b00000010 ∷ (address (first_place (program n bytes)) ++ bytes)

-- WREN's frame, the entry's frame, `end`
abbrev pub events_of : Entry → List FlashEvent
events_of o = wren ++ (framed (instruction_of o) ++ (End ∷ []))

unfoldable pub events_of_all : List Entry → List FlashEvent
events_of_all [] = []
events_of_all (o ∷ os) = events_of o ++ events_of_all os

-- what an event sends, without what was recorded as sent back
abbrev pub sent_of : FlashEvent → FlashEvent
sent_of Select = Select
sent_of (Byte si so) = Byte si 0
sent_of Cut = Cut
sent_of Deselect = Deselect
sent_of End = End

-- an event of channel F that sends the same as another; what was recorded as sent back may differ
abbrev pub SameSent : Event → FlashEvent → Type 0
SameSent (event.Flash x) e = sent_of x ≡ sent_of e
SameSent (event.Eeprom x) e = ⊥
SameSent (event.Line x) e = ⊥

-- the records bear these events, whatever their stamps
unfoldable pub Bear : List Record → List FlashEvent → Type 0
Bear [] [] = Unit {0}
Bear [] (e ∷ es) = ⊥
Bear (r ∷ rs) [] = ⊥
Bear (r ∷ rs) (e ∷ es) = SameSent r.event e × Bear rs es

-- ---- the watched sector

-- the image holds the content's bytes of sector w, counted from 0, without doubt
pub record Shows (w : ℕ) (i : Image) (content : List ℕ) : Type 0 where
  pub fit : spans flash_sector i ≡ true
  pub cells : (q : ℕ) → q < flash_sector → cell_at i q ≡ sure (get_or content (flash_sector * w + q) 0)
