-- Believed: The supply and the lock net after a line record (document 01, 'Bytes and doubt' for the start, 'Supply').
use Rattle.std.specs.Prelude.{Bool, true, false, not}
use Rattle.record.specs.declared.Lines.{Lines}
use Rattle.record.specs.declared.LineEvent.{LineEvent}
use Rattle.record.specs.declared.LineEvent.TheVariants.{SupplyOn, SupplyOff, LockOn, LockOff}

abbrev pub lines_at_start : Lines
lines_at_start = record { supply = true; lock = false }

abbrev pub lines_after : Lines → LineEvent → Lines
lines_after l SupplyOn = record { supply = true; lock = l.lock }
lines_after l SupplyOff = record { supply = false; lock = l.lock }
lines_after l LockOn = record { supply = l.supply; lock = true }
lines_after l LockOff = record { supply = l.supply; lock = false }

-- the supply goes off, and the lock comes on: 'a repeated line state does nothing'
abbrev pub goes_off : Lines → LineEvent → Bool
goes_off l SupplyOn = false
goes_off l SupplyOff = l.supply
goes_off l LockOn = false
goes_off l LockOff = false

abbrev pub lock_comes_on : Lines → LineEvent → Bool
lock_comes_on l SupplyOn = false
lock_comes_on l SupplyOff = false
lock_comes_on l LockOn = not l.lock
lock_comes_on l LockOff = false
