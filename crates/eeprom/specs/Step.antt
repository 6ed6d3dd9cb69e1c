-- Believed: One record of channel E, and what a line record does to the chip (document 01, 'EEPROM rules', 'Supply').
use Rattle.std.specs.Prelude.{ℕ, Bool, eqb, Some, None}
use Rattle.law.specs.Words.{pick}
use Rattle.record.specs.LineRules.{goes_off}
use Rattle.record.specs.declared.Skeleton.TheVariants.{Silent, Starts, Ends, NoCycle}
use Rattle.record.specs.declared.EepromEvent.{EepromEvent}
use Rattle.record.specs.declared.EepromEvent.TheVariants.{Start, Byte, Cut, Stop, End}
use Rattle.record.specs.declared.LineEvent.{LineEvent}
use Rattle.record.specs.declared.Lines.{Lines}
use Rattle.eeprom.specs.Chip.{blank, running_of, answered, silent_in, place_of}
use Rattle.eeprom.specs.Write.{sent_by}
use Rattle.eeprom.specs.Frame.{byte_of}
use Rattle.eeprom.specs.declared.EepromFrame.{EepromFrame}
use Rattle.eeprom.specs.declared.EepromFrame.TheVariants.{Idle, Void, Opened, Addressed, Half, Taking, Reading}
use Rattle.eeprom.specs.declared.Eeprom.{Eeprom}
use Rattle.eeprom.specs.declared.EepromStep.{EepromStep}

-- `sta` drops unsaved data; that it came in a cycle is kept till the address byte
abbrev pub started_of : Eeprom → EepromStep
started_of x = silent_in x (Opened (running_of x.cycle))

-- `cut` makes the frame void
abbrev pub cut_of : Eeprom → EepromStep
cut_of x = silent_in x Void

-- `sto` leaves the chip idle
abbrev pub idle_of : Eeprom → EepromStep
idle_of x = silent_in x Idle

-- after one or more data bytes it starts a cycle, unless the lock is on at that moment
abbrev pub write_ends : Eeprom → ℕ → Bool → EepromStep
write_ends x n lock =
    pick (eqb n 0) (idle_of x)
    (pick lock (idle_of x)
    (answered (record { frame = Idle; cycle = Some (sent_by (place_of x.counter) n); counter = x.counter; page = x.page }) Starts))

abbrev pub stop_in : EepromFrame → Eeprom → Bool → EepromStep
stop_in Idle x lock = idle_of x
stop_in Void x lock = idle_of x
stop_in (Opened barred) x lock = idle_of x
stop_in Addressed x lock = idle_of x
stop_in (Half high) x lock = idle_of x
stop_in (Taking n) x lock = write_ends x n lock
stop_in Reading x lock = idle_of x

abbrev pub stop_of : Eeprom → Bool → EepromStep
stop_of x lock = stop_in x.frame x lock

-- at `end` a cycle is over; the frame stays
abbrev pub end_of : Eeprom → EepromStep
end_of x =
    pick (running_of x.cycle)
    (answered (record { frame = x.frame; cycle = None; counter = x.counter; page = blank }) Ends)
    (answered x NoCycle)

abbrev pub powered_of : Eeprom → EepromEvent → Bool → ℕ → EepromStep
powered_of x Start lock wired = started_of x
powered_of x (Byte b bit) lock wired = byte_of x b bit wired
powered_of x Cut lock wired = cut_of x
powered_of x Stop lock wired = stop_of x lock
powered_of x End lock wired = end_of x

-- supply off: bus records are silent, but `end` is kind 7; a frame that is opened is void, and `sto` leaves the chip idle
abbrev pub unpowered_of : Eeprom → EepromEvent → EepromStep
unpowered_of x Start = silent_in x Void
unpowered_of x (Byte b bit) = answered x Silent
unpowered_of x Cut = cut_of x
unpowered_of x Stop = idle_of x
unpowered_of x End = answered x NoCycle

abbrev pub step_of : Eeprom → EepromEvent → Lines → ℕ → EepromStep
step_of x e l wired = pick l.supply (powered_of x e l.lock wired) (unpowered_of x e)

-- an open frame is void
abbrev pub voided_by : EepromFrame → EepromFrame
voided_by Idle = Idle
voided_by Void = Void
voided_by (Opened barred) = Void
voided_by Addressed = Void
voided_by (Half high) = Void
voided_by (Taking n) = Void
voided_by Reading = Void

-- the supply goes off: then no cycle runs, the counter is lost, and an open frame void
abbrev pub off_of : Eeprom → Eeprom
off_of x = record { frame = voided_by x.frame; cycle = None; counter = None; page = blank }

-- of the line records only that one does something; a repeated line state does nothing
abbrev pub line_of : Eeprom → LineEvent → Lines → Eeprom
line_of x e l = pick (goes_off l e) (off_of x) x
