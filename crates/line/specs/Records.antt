-- Believed: A record's line (document 01, 'The trace'): stamp, channel, event, and the event's fields.
use Rattle.std.specs.Prelude.{ℕ, ◌≤◌, List, ◌++◌, drop, Ok, Err}
use Rattle.record.specs.declared.Answer.{Answer}
use Rattle.record.specs.declared.Answer.TheVariants.{Settled, BadLine}
use Rattle.record.specs.declared.Event.{Event}
use Rattle.record.specs.declared.Event.TheVariants.{Flash, Eeprom, Line}
use Rattle.record.specs.declared.Record.{Record}
use Rattle.field.specs.Ends.{tab}
use Rattle.field.specs.Decimal.{largest, decimal}
use Rattle.field.specs.Reads.{Reads}
use Rattle.line.specs.Places.{first_bad_field}
use Rattle.line.specs.Words.{channel_f, channel_e, channel_l}
use Rattle.line.specs.ChannelF.{spelled_flash, FlashOk}
use Rattle.line.specs.ChannelE.{spelled_eeprom, EepromOk}
use Rattle.line.specs.ChannelL.{spelled_line}
use Rattle.field.specs.Read.{Read, got, bad_field}

unfoldable pub spelled_event : Event → List ℕ
spelled_event (Flash e) = channel_f ++ (tab ++ spelled_flash e)
spelled_event (Eeprom e) = channel_e ++ (tab ++ spelled_eeprom e)
spelled_event (Line e) = channel_l ++ (tab ++ spelled_line e)

-- the one spelling of a record: its line with the LF
unfoldable pub spelled : Record → List ℕ
spelled r = decimal r.stamp ++ (tab ++ spelled_event r.event)

abbrev pub EventOk : Event → Type 0
EventOk (Flash e) = FlashOk e
EventOk (Eeprom e) = EepromOk e
EventOk (Line e) = Unit {0}

-- what the types give: every record that code can hold is in range
abbrev pub RecordOk : Record → Type 0
RecordOk r = (r.stamp ≤ largest) × EventOk r.event

-- the reading where no record's line stands: it tells the number of the first bad field
abbrev pub bad_record : List ℕ → ℕ → Read Record
bad_record text at = bad_field (first_bad_field (drop at text))

abbrev pub ReadsRecord : List ℕ → ℕ → Read Record → Type 0
ReadsRecord text at = Reads spelled RecordOk got (bad_record text at) text at

-- a reading by the paper's answers and fields: 3 and the field where no record's line stands, 0 (nothing is refused) and 0 where one does
abbrev pub record_answer : Read Record → Answer
record_answer (Err e) = BadLine
record_answer (Ok x) = Settled

abbrev pub record_fault : Read Record → ℕ
record_fault (Err e) = e.0
record_fault (Ok x) = 0
