-- What is said of every chip, chip by chip. Assumes nothing.
use mathlib.Core.Path.{◌≡◌}
use mathlib.Core.Bool.{Bool, true}
use Rattle.law.specs.Choice.{both}
use Rattle.record.specs.declared.Chip.{Chip}
use Rattle.record.specs.declared.Chip.TheVariants.{Flash, Eeprom}
use Rattle.image.specs.Images.{every_chip}

module _ (test : Chip → Bool) where
  pub chip_by_chip : every_chip test ≡ true → (chip : Chip) → test chip ≡ true
  chip_by_chip e Flash = (both (test Flash) (test Eeprom) e).0
  chip_by_chip e Eeprom = (both (test Flash) (test Eeprom) e).1

  pub all_chips : ((chip : Chip) → test chip ≡ true) → every_chip test ≡ true
  all_chips h = rw (h Flash, h Eeprom)
