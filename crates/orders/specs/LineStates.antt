-- The line records that repeat the state of their line do nothing (document 01, 'Supply'), and those that are left without them.
use Rattle.std.specs.Prelude.{◌≡◌, Bool, true, false, not, List, [], ◌∷◌, ◌+◌, set}
use Rattle.law.specs.Words.{pick}
use Rattle.record.specs.declared.Record.{Record}
use Rattle.record.specs.declared.Event.{Event}
use Rattle.record.specs.declared.Event.TheVariants as event
use Rattle.record.specs.declared.LineEvent.TheVariants.{SupplyOn, SupplyOff, LockOn, LockOff}
use Rattle.record.specs.declared.Lines.{Lines}
use Rattle.record.specs.LineRules.{lines_after}
use Rattle.orders.specs.Stamp.{lines_from}
use Rattle.orders.specs.declared.tying.Tied.{Tied}
use Rattle.orders.specs.declared.Told.{Told}

abbrev pub of_line : Event → Bool
of_line (event.Flash e) = false
of_line (event.Eeprom e) = false
of_line (event.Line e) = true

abbrev pub OfBus : Record → Type 0
OfBus r = of_line r.event ≡ false

-- a record of another channel than L, which an array of the lines' may hold too, repeats nothing and leaves the lines
abbrev pub repeats_of : Lines → Event → Bool
repeats_of l (event.Flash e) = false
repeats_of l (event.Eeprom e) = false
repeats_of l (event.Line SupplyOn) = l.supply
repeats_of l (event.Line SupplyOff) = not l.supply
repeats_of l (event.Line LockOn) = l.lock
repeats_of l (event.Line LockOff) = not l.lock

abbrev pub lines_next : Lines → Event → Lines
lines_next l (event.Flash e) = l
lines_next l (event.Eeprom e) = l
lines_next l (event.Line e) = lines_after l e

-- the records that repeat nothing, after these lines
unfoldable pub telling : Lines → List Record → List Record
telling l [] = []
telling l (r ∷ rs) = pick (repeats_of l r.event) (telling l rs) (r ∷ telling (lines_next l r.event) rs)

-- the same, one record after the other
abbrev pub told_with : Told → Record → Told
told_with t r =
    pick (repeats_of t.lines r.event) t
    (record { kept = record { records = set t.kept.records t.kept.count r; count = t.kept.count + 1 }; lines = lines_next t.lines r.event })

-- only the line records are others: those that repeat nothing
pub record OnlyTelling (h : Tied) (l : Lines) (r : Tied) : Type 0 where
  pub buses : r.buses ≡ h.buses
  pub board : r.board ≡ h.board
  pub lines : lines_from r 0 ≡ telling l (lines_from h 0)
