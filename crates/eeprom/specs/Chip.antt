-- Believed: The EEPROM's state, and what its rules share (document 01, 'EEPROM rules', 'Bytes and doubt').
use Rattle.std.specs.Prelude.{ℕ, Bool, true, false, List, replicate, Option, Some, None}
use Rattle.record.specs.declared.Skeleton.{Skeleton}
use Rattle.record.specs.declared.Skeleton.TheVariants.{Silent}
use Rattle.page.specs.Geometry.{eeprom_page}
use Rattle.eeprom.specs.declared.Sent.{Sent}
use Rattle.eeprom.specs.declared.EepromFrame.{EepromFrame}
use Rattle.eeprom.specs.declared.EepromFrame.TheVariants.{Idle}
use Rattle.eeprom.specs.declared.Eeprom.{Eeprom}
use Rattle.eeprom.specs.declared.EepromStep.{EepromStep}

-- A cycle is Some of the places that it writes, and None where none runs; a counter is Some of its place, and None where it is lost.

-- a page to which nothing was sent
abbrev pub blank : List ℕ
blank = replicate eeprom_page 0

-- at the start the chip is idle and its counter lost ('Bytes and doubt')
abbrev pub start_of : Eeprom
start_of = record { frame = Idle; cycle = None; counter = None; page = blank }

-- whether a write cycle runs
abbrev pub running_of : Option Sent → Bool
running_of None = false
running_of (Some s) = true

-- what is left of the page where the frame has no data: a cycle's
abbrev pub page_in : Option Sent → List ℕ → List ℕ
page_in None page = blank
page_in (Some s) page = page

-- the same chip in a frame that has no data
abbrev pub in_frame : Eeprom → EepromFrame → Eeprom
in_frame x f = record { frame = f; cycle = x.cycle; counter = x.counter; page = page_in x.cycle x.page }

-- the chip after a record, and its reply to it
abbrev pub answered : Eeprom → Skeleton → EepromStep
answered x r = record { chip = x; reply = r }

abbrev pub silent_in : Eeprom → EepromFrame → EepromStep
silent_in x f = answered (in_frame x f) Silent

-- the counter's place; a frame that takes data has one
abbrev pub place_of : Option ℕ → ℕ
place_of None = 0
place_of (Some p) = p
