-- What is claimed of trying the controls alone: it is enough, and exact. And what is held of a stamp's records.
use Rattle.std.specs.Prelude.{◌≡◌, List, ℕ, ◌+◌, min, length, take}
use Rattle.law.specs.Words.{All}
use Rattle.meaning.specs.Meaning.{Channel, most, of, Alike}
use Rattle.record.specs.declared.Board.{Board}
use Rattle.record.specs.declared.Record.{Record}
use Rattle.controls.specs.declared.Controls.{Controls}
use Rattle.controls.specs.Sides.{flash_side, eeprom_side}
use Rattle.flash.specs.Good as flash-good
use Rattle.eeprom.specs.Good as eeprom-good
use Rattle.orders.specs.declared.Held.{Held}
use Rattle.orders.specs.Verdicts.{count_of, array_of, BusesAgree}
use Rattle.machine.specs.Machine.{Machine, on_machine}

-- controls that are reached
pub record Good (c : Controls) : Type 0 where
  pub flash : flash-good.Good (flash_side c)
  pub eeprom : eeprom-good.Good (eeprom_side c)

-- of the records of one stamp: where each bus's orders with the lines agree on the controls, all allowed orders end alike on the machine
abbrev pub ControlsDecide : Board → List Record → Machine → Type 0
ControlsDecide b p m = (t : ℕ) → All (λ (r : Record). r.stamp ≡ t) p → BusesAgree b (λ c. of (on_machine b) c p) m.controls → Alike (on_machine b) p m

-- and only there
abbrev pub Decided : Board → List Record → Machine → Type 0
Decided b p m = (t : ℕ) → All (λ (r : Record). r.stamp ≡ t) p → Alike (on_machine b) p m → BusesAgree b (λ c. of (on_machine b) c p) m.controls

-- what is held of a channel: its records, and one more than the most where there are more
pub record HoldsMost (most count : ℕ) (array xs : List Record) : Type 0 where
  pub counts : count ≡ min (length xs) (most + 1)
  pub holds : take count array ≡ take most xs

-- the records p of one stamp are held
abbrev pub Holds : Board → Held → List Record → Type 0
Holds b h p = (c : Channel) → HoldsMost (most c) (count_of h c) (array_of h c) (of (on_machine b) c p)
