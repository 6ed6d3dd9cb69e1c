-- The EEPROM with the two lines that reach it: what one bus record and one line record do to both.
use Rattle.std.specs.Prelude.{ℕ}
use Rattle.record.specs.LineRules.{lines_at_start, lines_after}
use Rattle.record.specs.declared.Skeleton.{Skeleton}
use Rattle.record.specs.declared.EepromEvent.{EepromEvent}
use Rattle.record.specs.declared.LineEvent.{LineEvent}
use Rattle.record.specs.declared.Lines.{Lines}
use Rattle.eeprom.specs.Chip.{start_of}
use Rattle.eeprom.specs.Step.{step_of, line_of}
use Rattle.eeprom.specs.declared.Eeprom.{Eeprom}

pub record Side : Type 0 where
  pub chip : Eeprom
  pub lines : Lines

abbrev pub side_start : Side
side_start = record { chip = start_of; lines = lines_at_start }

-- a bus record leaves the lines
abbrev pub side_bus : ℕ → Side → EepromEvent → Side
side_bus wired s e = record { chip = (step_of s.chip e s.lines wired).chip; lines = s.lines }

abbrev pub side_says : ℕ → Side → EepromEvent → Skeleton
side_says wired s e = (step_of s.chip e s.lines wired).reply

-- a line record moves the lines; the chip goes by the lines before it
abbrev pub side_line : Side → LineEvent → Side
side_line s e = record { chip = line_of s.chip e s.lines; lines = lines_after s.lines e }
