-- Refusal 5 speaks of each channel by itself, and an `end` moves no bus: records are possible where those that move each bus are.
use mathlib.Core.Path.{◌≡◌, refl, sym, subst}
use mathlib.Core.List.{List, [], ◌∷◌}
use Prim.Native.Nat.{ℕ}
use Rattle.std.proofs.Common.{rules}
use Rattle.std.specs.Prelude.{Option, Some}
use Rattle.law.specs.Words.{filter, keep}
use Rattle.record.specs.declared.FlashEvent.TheVariants as flash
use Rattle.record.specs.declared.EepromEvent.TheVariants as eeprom
use Rattle.record.specs.declared.Event.{Event}
use Rattle.record.specs.declared.Event.TheVariants.{Flash, Eeprom, Line}
use Rattle.record.specs.declared.Record.{Record}
use Rattle.text.specs.declared.buses.Bus.{Bus}
use Rattle.text.specs.declared.buses.Buses.{Buses}
use Rattle.text.specs.Buses.{flash_bus, eeprom_bus, with_flash, with_eeprom, after, Possible}
use Rattle.capture.specs.Taken.{flash_movers, eeprom_movers}

abbrev pub flash_to : Bus → Event → Option Bus
flash_to x (Flash e) = flash_bus x e
flash_to x (Eeprom e) = Some x
flash_to x (Line e) = Some x

abbrev pub eeprom_to : Bus → Event → Option Bus
eeprom_to x (Flash e) = Some x
eeprom_to x (Eeprom e) = eeprom_bus x e
eeprom_to x (Line e) = Some x

-- each record is possible, from the bus as it stands
unfoldable pub Runs : (Bus → Event → Option Bus) → Bus → List Record → Type 0
Runs to x [] = Unit {0}
Runs to x (r ∷ rs) = (y : Bus) × (to x r.event ≡ Some y) × Runs to y rs

abbrev buses : Bus → Bus → Option Buses
buses x y = Some (record { flash = x; eeprom = y })

abbrev Apart : List Record → Type 0
Apart m = (x y : Bus) → Runs flash_to x (flash_movers m) → Runs eeprom_to y (eeprom_movers m) → Possible (after (buses x y) m)

end_flash : (x : Bus) → flash_bus x flash.End ≡ Some x
end_flash x = search rules

end_eeprom : (x : Bus) → eeprom_bus x eeprom.End ≡ Some x
end_eeprom x = search rules

module _ (m : List Record) (h : Apart m) where
  by_flash_lem : (x y : Bus) (k : Option Bus) (z : Bus) → k ≡ Some z → Runs flash_to z (flash_movers m) → Runs eeprom_to y (eeprom_movers m) →
      Possible (after (with_flash (record { flash = x; eeprom = y }) k) m)
  by_flash_lem x y k z e f g =
      subst (λ (j : Option Bus). Possible (after (with_flash (record { flash = x; eeprom = y }) j) m)) (sym e) (h z y f g)

  by_eeprom_lem : (x y : Bus) (k : Option Bus) (z : Bus) → k ≡ Some z → Runs flash_to x (flash_movers m) → Runs eeprom_to z (eeprom_movers m) →
      Possible (after (with_eeprom (record { flash = x; eeprom = y }) k) m)
  by_eeprom_lem x y k z e f g =
      subst (λ (j : Option Bus). Possible (after (with_eeprom (record { flash = x; eeprom = y }) j) m)) (sym e) (h x z f g)

  more : (v : Event) (t : ℕ) → Apart (record { stamp = t; event = v } ∷ m)
  unfolding after filter keep Runs
  more (Flash flash.Select) t x y f g = by_flash_lem x y (flash_bus x flash.Select) f.0 f.1 f.2 g
  more (Flash (flash.Byte si so)) t x y f g = by_flash_lem x y (flash_bus x (flash.Byte si so)) f.0 f.1 f.2 g
  more (Flash flash.Cut) t x y f g = by_flash_lem x y (flash_bus x flash.Cut) f.0 f.1 f.2 g
  more (Flash flash.Deselect) t x y f g = by_flash_lem x y (flash_bus x flash.Deselect) f.0 f.1 f.2 g
  more (Flash flash.End) t x y f g = by_flash_lem x y (flash_bus x flash.End) x (end_flash x) f g
  more (Eeprom eeprom.Start) t x y f g = by_eeprom_lem x y (eeprom_bus y eeprom.Start) g.0 g.1 f g.2
  more (Eeprom (eeprom.Byte b a)) t x y f g = by_eeprom_lem x y (eeprom_bus y (eeprom.Byte b a)) g.0 g.1 f g.2
  more (Eeprom eeprom.Cut) t x y f g = by_eeprom_lem x y (eeprom_bus y eeprom.Cut) g.0 g.1 f g.2
  more (Eeprom eeprom.Stop) t x y f g = by_eeprom_lem x y (eeprom_bus y eeprom.Stop) g.0 g.1 f g.2
  more (Eeprom eeprom.End) t x y f g = by_eeprom_lem x y (eeprom_bus y eeprom.End) y (end_eeprom y) f g
  more (Line e) t x y f g = h x y f g

pub apart : (m : List Record) → Apart m
unfolding after
apart [] x y f g = (record { flash = x; eeprom = y }, refl)
apart (r ∷ m) x y f g = more m (apart m) r.event r.stamp x y f g
