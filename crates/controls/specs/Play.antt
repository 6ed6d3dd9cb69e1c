-- Believed: One record on the controls: a chip's record goes to that chip, a line record to both.
use Rattle.std.specs.Prelude.{ℕ, Bool}
use Rattle.record.specs.declared.Board.{Board}
use Rattle.record.specs.declared.Record.{Record}
use Rattle.record.specs.declared.Event.{Event}
use Rattle.record.specs.declared.Event.TheVariants as event
use Rattle.record.specs.declared.FlashEvent.{FlashEvent}
use Rattle.record.specs.declared.EepromEvent.{EepromEvent}
use Rattle.record.specs.declared.LineEvent.{LineEvent}
use Rattle.record.specs.declared.Skeleton.TheVariants.{Silent}
use Rattle.record.specs.LineRules.{lines_at_start, lines_after}
use Rattle.flash.specs.Step as flash-rules
use Rattle.eeprom.specs.Chip as eeprom_chip
use Rattle.eeprom.specs.Step as eeprom-rules
use Rattle.controls.specs.declared.Controls.{Controls}
use Rattle.controls.specs.declared.Moved.{Moved}

-- 'Bytes and doubt': supply on, lock off, both chips idle
abbrev pub start_of : Board → Controls
start_of b = record { flash = flash-rules.start_of b.status; eeprom = eeprom_chip.start_of; lines = lines_at_start }

abbrev pub flash_moved : Controls → FlashEvent → ℕ → Moved
flash_moved c e watched =
    record {
      controls = record { flash = (flash-rules.step_of c.flash e c.lines watched).chip; eeprom = c.eeprom; lines = c.lines };
      reply = (flash-rules.step_of c.flash e c.lines watched).reply;
    }

abbrev pub eeprom_moved : Controls → EepromEvent → ℕ → Moved
eeprom_moved c e wired =
    record {
      controls = record { flash = c.flash; eeprom = (eeprom-rules.step_of c.eeprom e c.lines wired).chip; lines = c.lines };
      reply = (eeprom-rules.step_of c.eeprom e c.lines wired).reply;
    }

-- line records are silent
abbrev pub line_moved : Controls → LineEvent → Moved
line_moved c e =
    record {
      controls = record {
        flash = flash-rules.line_of c.flash e c.lines;
        eeprom = eeprom-rules.line_of c.eeprom e c.lines;
        lines = lines_after c.lines e;
      };
      reply = Silent;
    }

abbrev pub event_moved : Board → Controls → Event → Moved
event_moved b c (event.Flash e) = flash_moved c e b.sector
event_moved b c (event.Eeprom e) = eeprom_moved c e b.address
event_moved b c (event.Line e) = line_moved c e

unfoldable pub moved_of : Board → Controls → Record → Moved
moved_of b c r = event_moved b c r.event

abbrev pub lost_of : Controls → Bool
lost_of c = flash-rules.lost_of c.flash
