-- What is kept of a chip beside its control, its image and its pages' times, and what a stroke makes of it. Assumes nothing.
use Prim.Native.Nat.{ℕ}
use Rattle.flash.specs.declared.Flash.{Flash}
use Rattle.eeprom.specs.declared.Eeprom.{Eeprom}
use Rattle.image.specs.Image.{Image}
use Rattle.times.specs.Times.{Time, timed_at}
use Rattle.machine.specs.declared.effects.Stroke.{Stroke}
use Rattle.machine.specs.Effects.{flash_touched, eeprom_touched, flash_after, eeprom_after}

pub record Memory : Type 0 where
  pub image : Image
  pub times : ℕ → Time

-- by the rules, a stroke at the stamp t
abbrev pub flash_struck : ℕ → ℕ → Flash → Stroke → Memory → Memory
flash_struck t watched f s k = record { image = flash_after s watched f k.image; times = timed_at t (flash_touched s watched f) k.times }

abbrev pub eeprom_struck : ℕ → Eeprom → Stroke → Memory → Memory
eeprom_struck t e s k = record { image = eeprom_after s e k.image; times = timed_at t (eeprom_touched s e) k.times }
