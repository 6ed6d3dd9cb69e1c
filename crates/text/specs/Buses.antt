-- Believed: Impossible records (document 01, 'The trace', refusal 5), judged in file order for each channel by itself, whatever the supply.
use Rattle.std.specs.Prelude.{◌≡◌, Option, Some, None, List, [], ◌∷◌}
use Rattle.record.specs.declared.Answer.{Answer}
use Rattle.record.specs.declared.FlashEvent.{FlashEvent}
use Rattle.record.specs.declared.EepromEvent.{EepromEvent}
use Rattle.record.specs.declared.Event.{Event}
use Rattle.record.specs.declared.Record.{Record}
use Rattle.text.specs.declared.buses.Bus.{Bus}
use Rattle.text.specs.declared.buses.Bus.TheVariants.{Closed, Open, Spoilt}
use Rattle.text.specs.declared.buses.Buses.{Buses}

-- F: `sel` while selected is impossible, and `x`, `cut`, `des` while not; from `cut` to the next `des`, anything but `end`
abbrev pub flash_bus : Bus → FlashEvent → Option Bus
flash_bus Closed FlashEvent.Select = Some Open
flash_bus Closed (FlashEvent.Byte si so) = None
flash_bus Closed FlashEvent.Cut = None
flash_bus Closed FlashEvent.Deselect = None
flash_bus Closed FlashEvent.End = Some Closed
flash_bus Open FlashEvent.Select = None
flash_bus Open (FlashEvent.Byte si so) = Some Open
flash_bus Open FlashEvent.Cut = Some Spoilt
flash_bus Open FlashEvent.Deselect = Some Closed
flash_bus Open FlashEvent.End = Some Open
flash_bus Spoilt FlashEvent.Select = None
flash_bus Spoilt (FlashEvent.Byte si so) = None
flash_bus Spoilt FlashEvent.Cut = None
flash_bus Spoilt FlashEvent.Deselect = Some Closed
flash_bus Spoilt FlashEvent.End = Some Spoilt

-- E: `b`, `cut`, `sto` with no `sta` since the start or the last `sto`; from `cut` to the next `sta` or `sto`, anything but `end`
abbrev pub eeprom_bus : Bus → EepromEvent → Option Bus
eeprom_bus Closed EepromEvent.Start = Some Open
eeprom_bus Closed (EepromEvent.Byte b a) = None
eeprom_bus Closed EepromEvent.Cut = None
eeprom_bus Closed EepromEvent.Stop = None
eeprom_bus Closed EepromEvent.End = Some Closed
eeprom_bus Open EepromEvent.Start = Some Open
eeprom_bus Open (EepromEvent.Byte b a) = Some Open
eeprom_bus Open EepromEvent.Cut = Some Spoilt
eeprom_bus Open EepromEvent.Stop = Some Closed
eeprom_bus Open EepromEvent.End = Some Open
eeprom_bus Spoilt EepromEvent.Start = Some Open
eeprom_bus Spoilt (EepromEvent.Byte b a) = None
eeprom_bus Spoilt EepromEvent.Cut = None
eeprom_bus Spoilt EepromEvent.Stop = Some Closed
eeprom_bus Spoilt EepromEvent.End = Some Spoilt

abbrev pub all_closed : Buses
all_closed = record { flash = Closed; eeprom = Closed }

abbrev pub with_flash : Buses → Option Bus → Option Buses
with_flash b (Some k) = Some (record { flash = k; eeprom = b.eeprom })
with_flash b None = None

abbrev pub with_eeprom : Buses → Option Bus → Option Buses
with_eeprom b (Some k) = Some (record { flash = b.flash; eeprom = k })
with_eeprom b None = None

-- each channel by itself; line records are always possible
abbrev pub moved : Buses → Event → Option Buses
moved b (Event.Flash e) = with_flash b (flash_bus b.flash e)
moved b (Event.Eeprom e) = with_eeprom b (eeprom_bus b.eeprom e)
moved b (Event.Line e) = Some b

-- after an impossible record there is nothing to say
abbrev pub onwards : Option Buses → Event → Option Buses
onwards (Some b) e = moved b e
onwards None e = None

unfoldable pub after : Option Buses → List Record → Option Buses
after m [] = m
after m (r ∷ rs) = after (onwards m r.event) rs

-- how the buses stand after the records of a trace
abbrev pub buses_after : List Record → Option Buses
buses_after rs = after (Some all_closed) rs

-- no record of the list is impossible
abbrev pub Possible : Option Buses → Type 0
Possible m = (b : Buses) × (m ≡ Some b)

-- a record that cannot come after those of the list
abbrev pub ImpossibleAfter : List Record → Record → Type 0
ImpossibleAfter rs r = onwards (buses_after rs) r.event ≡ None

-- by the paper's answers: 5 for an impossible record, 0 (nothing is refused) for one that can come
abbrev pub moves_answer : Option Buses → Answer
moves_answer None = Answer.Impossible
moves_answer (Some b) = Answer.Settled
