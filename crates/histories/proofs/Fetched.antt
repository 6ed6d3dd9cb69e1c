-- A place that is fetched is one that is kept. Of the EEPROM by its counter, which is a place of the chip.
use mathlib.Core.Bool.{Bool}
use Prim.Native.Nat.{ℕ}
use lib.Dec.{eqb}
use Rattle.std.specs.Prelude.{Option, None, Some}
use Rattle.law.specs.Words.{pick}
use Rattle.law.specs.Choice.{of_both}
use Rattle.page.specs.Geometry.{eeprom_size}
use Rattle.record.specs.declared.Board.{Board}
use Rattle.record.specs.declared.Event.{Event}
use Rattle.record.specs.declared.Event.TheVariants as event
use Rattle.record.specs.declared.EepromEvent.{EepromEvent}
use Rattle.record.specs.declared.EepromEvent.TheVariants.{Start, Byte, Cut, Stop, End}
use Rattle.record.specs.declared.Lines.{Lines}
use Rattle.image.specs.Images.{kept_bytes}
use Rattle.flash.proofs.Within.{Fetches, fetches_step}
use Rattle.eeprom.specs.declared.Eeprom.{Eeprom}
use Rattle.eeprom.specs.declared.EepromStep.{EepromStep}
use Rattle.eeprom.specs.declared.EepromFrame.{EepromFrame}
use Rattle.eeprom.specs.declared.EepromFrame.TheVariants.{Idle, Void, Opened, Addressed, Half, Taking, Reading}
use Rattle.eeprom.specs.Chip.{running_of}
use Rattle.eeprom.specs.Frame.{own_address, fetch_of, byte_in}
use Rattle.eeprom.specs.Step.{stop_in, powered_of, unpowered_of, step_of}
use Rattle.eeprom.specs.Good.{CounterGood}
use Rattle.controls.specs.declared.Controls.{Controls}
use Rattle.controls.specs.Play.{event_moved}
use Rattle.enough.specs.Enough.{Good}
use Rattle.histories.specs.History.{bus_of}

abbrev FetchesKept : EepromStep → Type 0
FetchesKept x = Fetches eeprom_size x.reply

fetches_counter : (n : Option ℕ) → CounterGood n → Fetches eeprom_size (fetch_of n)
fetches_counter None h = tt
fetches_counter (Some p) h = h

fetches_byte : (f : EepromFrame) (x : Eeprom) (b : ℕ) (bit : Bool) (wired : ℕ) → CounterGood x.counter → FetchesKept (byte_in f x b bit wired)
fetches_byte Idle x b bit wired h = tt
fetches_byte Void x b bit wired h = tt
fetches_byte (Opened barred) x b bit wired h = of_both FetchesKept (own_address b wired) (pick barred _ _) _ (of_both FetchesKept barred _ _ tt tt) tt
fetches_byte Addressed x b bit wired h = tt
fetches_byte (Half high) x b bit wired h = tt
fetches_byte (Taking n) x b bit wired h = tt
fetches_byte Reading x b bit wired h = fetches_counter x.counter h

fetches_stop : (f : EepromFrame) (x : Eeprom) (lock : Bool) → FetchesKept (stop_in f x lock)
fetches_stop Idle x lock = tt
fetches_stop Void x lock = tt
fetches_stop (Opened barred) x lock = tt
fetches_stop Addressed x lock = tt
fetches_stop (Half high) x lock = tt
fetches_stop (Taking n) x lock = of_both FetchesKept (eqb n 0) _ (pick lock _ _) tt (of_both FetchesKept lock _ _ tt tt)
fetches_stop Reading x lock = tt

fetches_powered : (x : Eeprom) (e : EepromEvent) (lock : Bool) (wired : ℕ) → CounterGood x.counter → FetchesKept (powered_of x e lock wired)
fetches_powered x Start lock wired h = tt
fetches_powered x (Byte b bit) lock wired h = fetches_byte x.frame x b bit wired h
fetches_powered x Cut lock wired h = tt
fetches_powered x Stop lock wired h = fetches_stop x.frame x lock
fetches_powered x End lock wired h = of_both FetchesKept (running_of x.cycle) _ _ tt tt

fetches_unpowered : (x : Eeprom) (e : EepromEvent) → FetchesKept (unpowered_of x e)
fetches_unpowered x Start = tt
fetches_unpowered x (Byte b bit) = tt
fetches_unpowered x Cut = tt
fetches_unpowered x Stop = tt
fetches_unpowered x End = tt

fetches_eeprom : (x : Eeprom) (e : EepromEvent) (l : Lines) (wired : ℕ) → CounterGood x.counter → FetchesKept (step_of x e l wired)
fetches_eeprom x e l wired h = of_both FetchesKept l.supply (powered_of x e l.lock wired) (unpowered_of x e) (fetches_powered x e l.lock wired h) (fetches_unpowered x e)

pub fetches : (b : Board) (c : Controls) → Good c → (v : Event) → Fetches (kept_bytes (bus_of v)) (event_moved b c v).reply
fetches b c g (event.Flash e) = fetches_step c.flash e c.lines b.sector
fetches b c g (event.Eeprom e) = fetches_eeprom c.eeprom e c.lines b.address g.eeprom.chip_good.in_counter
fetches b c g (event.Line e) = tt
