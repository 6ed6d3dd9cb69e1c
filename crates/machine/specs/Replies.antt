-- Believed: A record's reply, and how it compares with what was recorded (document 01, 'Bytes and doubt', 'Replies and stopping').
use Rattle.std.specs.Prelude.{ℕ, Bool, not, eqb}
use Rattle.law.specs.Words.{pick}
use Rattle.record.specs.declared.Event.{Event}
use Rattle.record.specs.declared.Event.TheVariants as event
use Rattle.record.specs.declared.FlashEvent.{FlashEvent}
use Rattle.record.specs.declared.FlashEvent.TheVariants as flash-event
use Rattle.record.specs.declared.EepromEvent.{EepromEvent}
use Rattle.record.specs.declared.EepromEvent.TheVariants as eeprom-event
use Rattle.record.specs.declared.Skeleton.{Skeleton}
use Rattle.record.specs.declared.Skeleton.TheVariants as skeleton
use Rattle.record.specs.declared.Reply.{Reply}
use Rattle.record.specs.declared.Reply.TheVariants as reply
use Rattle.record.specs.declared.Match.{Match}
use Rattle.record.specs.declared.Match.TheVariants.{Nothing, Agrees, Disagrees}
use Rattle.cell.specs.Rules.{agrees_cell}
use Rattle.image.specs.Image.{Image, cell_at}

-- a fetched byte comes with its mask; a status or identification byte is sure
unfoldable pub delivered : Image → Skeleton → Reply
delivered i skeleton.Silent = reply.Silent
delivered i (skeleton.Given b) = reply.Byte b 0
delivered i (skeleton.Fetch p) = reply.Byte (cell_at i p).value (cell_at i p).mask
delivered i skeleton.Ack = reply.Ack
delivered i skeleton.NoAck = reply.NoAck
delivered i skeleton.Starts = reply.Starts
delivered i skeleton.Ends = reply.Ends
delivered i skeleton.NoCycle = reply.NoCycle

-- what was recorded is the same, or it is not
abbrev pub agrees_if : Bool → Match
agrees_if same = pick same Agrees Disagrees

-- a read is compared on its sure bits only; where none is sure there is nothing to compare
abbrev pub compared_byte : ℕ → ℕ → ℕ → Match
compared_byte v m seen = pick (eqb m 255) Nothing (agrees_if (agrees_cell (record { value = v; mask = m }) seen))

-- by the byte that a record has, and what an acknowledge and its lack compare as
abbrev pub compared_to : ℕ → Match → Match → Reply → Match
compared_to seen ack lack reply.NotPlayed = Nothing
compared_to seen ack lack reply.Silent = Nothing
compared_to seen ack lack (reply.Byte v m) = compared_byte v m seen
compared_to seen ack lack reply.Ack = ack
compared_to seen ack lack reply.NoAck = lack
compared_to seen ack lack reply.Starts = Nothing
compared_to seen ack lack reply.Ends = Nothing
compared_to seen ack lack reply.NoCycle = Nothing

-- a flash record has SO, and no acknowledge bit
abbrev pub flash_seen : FlashEvent → Reply → Match
flash_seen flash-event.Select r = Nothing
flash_seen (flash-event.Byte si so) r = compared_to so Nothing Nothing r
flash_seen flash-event.Cut r = Nothing
flash_seen flash-event.Deselect r = Nothing
flash_seen flash-event.End r = Nothing

-- an EEPROM record has a byte and an acknowledge bit: 0 acknowledged, 1 not
abbrev pub eeprom_seen : EepromEvent → Reply → Match
eeprom_seen eeprom-event.Start r = Nothing
eeprom_seen (eeprom-event.Byte b bit) r = compared_to b (agrees_if (not bit)) (agrees_if bit) r
eeprom_seen eeprom-event.Cut r = Nothing
eeprom_seen eeprom-event.Stop r = Nothing
eeprom_seen eeprom-event.End r = Nothing

-- the match of a reply to a record
unfoldable pub compared : Event → Reply → Match
compared (event.Flash e) r = flash_seen e r
compared (event.Eeprom e) r = eeprom_seen e r
compared (event.Line e) r = Nothing
