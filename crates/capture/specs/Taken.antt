-- Believed: What is taken from the logger's trace (document 02, request 4/12: 'Line records and cycle ends come from the logger's trace, judged first; its other records are passed over').
use Rattle.std.specs.Prelude.{ℕ, Bool, true, false, not, List, [], ◌∷◌, eqb}
use Rattle.law.specs.Words.{pick, filter}
use Rattle.record.specs.declared.FlashEvent.{FlashEvent}
use Rattle.record.specs.declared.FlashEvent.TheVariants as flash
use Rattle.record.specs.declared.EepromEvent.{EepromEvent}
use Rattle.record.specs.declared.EepromEvent.TheVariants as eeprom
use Rattle.record.specs.declared.Event.{Event}
use Rattle.record.specs.declared.Event.TheVariants.{Flash, Eeprom, Line}
use Rattle.record.specs.declared.Record.{Record}
use Rattle.capture.specs.declared.Part.{Part}
use Rattle.capture.specs.declared.Part.TheVariants.{FlashEnds, EepromEnds, Lines}

abbrev pub flash_end : FlashEvent → Bool
flash_end flash.Select = false
flash_end (flash.Byte si so) = false
flash_end flash.Cut = false
flash_end flash.Deselect = false
flash_end flash.End = true

abbrev pub eeprom_end : EepromEvent → Bool
eeprom_end eeprom.Start = false
eeprom_end (eeprom.Byte b a) = false
eeprom_end eeprom.Cut = false
eeprom_end eeprom.Stop = false
eeprom_end eeprom.End = true

-- the flash's cycle ends, the EEPROM's, the line records
abbrev pub is_of : Part → Event → Bool
is_of FlashEnds (Flash e) = flash_end e
is_of EepromEnds (Flash e) = false
is_of Lines (Flash e) = false
is_of FlashEnds (Eeprom e) = false
is_of EepromEnds (Eeprom e) = eeprom_end e
is_of Lines (Eeprom e) = false
is_of FlashEnds (Line e) = false
is_of EepromEnds (Line e) = false
is_of Lines (Line e) = true

abbrev pub part_of : Part → List Record → List Record
part_of p rs = filter (λ (r : Record). is_of p r.event) rs

-- all of them
abbrev pub taken : Event → Bool
taken (Flash e) = flash_end e
taken (Eeprom e) = eeprom_end e
taken (Line e) = true

abbrev pub taken_of : List Record → List Record
taken_of rs = filter (λ (r : Record). taken r.event) rs

-- a record of the list has the stamp t
unfoldable pub stamped : List Record → ℕ → Bool
stamped [] t = false
stamped (r ∷ rs) t = pick (eqb r.stamp t) true (stamped rs t)

-- what is passed over of the logger's trace: the records that move a bus. In the merged trace they are the capture's
abbrev pub moves_flash : Event → Bool
moves_flash (Flash e) = not (flash_end e)
moves_flash (Eeprom e) = false
moves_flash (Line e) = false

abbrev pub moves_eeprom : Event → Bool
moves_eeprom (Flash e) = false
moves_eeprom (Eeprom e) = not (eeprom_end e)
moves_eeprom (Line e) = false

abbrev pub flash_movers : List Record → List Record
flash_movers rs = filter (λ (r : Record). moves_flash r.event) rs

abbrev pub eeprom_movers : List Record → List Record
eeprom_movers rs = filter (λ (r : Record). moves_eeprom r.event) rs
