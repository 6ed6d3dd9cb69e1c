-- Where no record is `off`, the flash's status is lost after a stamp exactly where it was before.
use Rattle.std.specs.Prelude.{◌≡◌, Bool, true, false}
use Rattle.record.specs.declared.Board.{Board}
use Rattle.record.specs.declared.Record.{Record}
use Rattle.record.specs.declared.Event.{Event}
use Rattle.record.specs.declared.Event.TheVariants as event
use Rattle.record.specs.declared.LineEvent.TheVariants.{SupplyOn, SupplyOff, LockOn, LockOff}
use Rattle.controls.specs.declared.Controls.{Controls}
use Rattle.controls.specs.Play.{lost_of}
use Rattle.orders.specs.Verdicts.{last_of, last_tied}
use Rattle.orders.specs.declared.Held.{Held}
use Rattle.orders.specs.declared.tying.Tied.{Tied}

abbrev pub is_off : Event → Bool
is_off (event.Flash e) = false
is_off (event.Eeprom e) = false
is_off (event.Line SupplyOn) = false
is_off (event.Line SupplyOff) = true
is_off (event.Line LockOn) = false
is_off (event.Line LockOff) = false

abbrev pub NotOff : Record → Type 0
NotOff r = is_off r.event ≡ false

abbrev pub StatusStays : Board → Held → Type 0
StatusStays b h = (s : Controls) → lost_of (last_of b h s) ≡ lost_of s

-- the same, of F's records and of E's with the lines'
abbrev pub TiedStays : Tied → Tied → Type 0
TiedStays flash eeprom = (s : Controls) → lost_of (last_tied flash eeprom s) ≡ lost_of s
