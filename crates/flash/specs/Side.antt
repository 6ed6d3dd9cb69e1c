-- The flash with the two lines that reach it.
use Rattle.std.specs.Prelude.{ℕ}
use Rattle.record.specs.declared.FlashEvent.{FlashEvent}
use Rattle.record.specs.declared.LineEvent.{LineEvent}
use Rattle.record.specs.declared.Lines.{Lines}
use Rattle.record.specs.declared.Skeleton.{Skeleton}
use Rattle.record.specs.LineRules.{lines_at_start, lines_after}
use Rattle.flash.specs.Step.{start_of, step_of, line_of}
use Rattle.flash.specs.declared.Flash.{Flash}

pub record Side : Type 0 where
  pub chip : Flash
  pub lines : Lines

-- supply on, lock off, the chip idle
abbrev pub side_start : ℕ → Side
side_start status = record { chip = start_of status; lines = lines_at_start }

-- after a record of channel F, and its reply
abbrev pub side_bus : ℕ → Side → FlashEvent → Side
side_bus watched s e = record { chip = (step_of s.chip e s.lines watched).chip; lines = s.lines }

abbrev pub side_says : ℕ → Side → FlashEvent → Skeleton
side_says watched s e = (step_of s.chip e s.lines watched).reply

-- after a record of channel L
abbrev pub side_line : Side → LineEvent → Side
side_line s e = record { chip = line_of s.chip e s.lines; lines = lines_after s.lines e }
