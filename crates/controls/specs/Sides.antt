-- The controls as each chip sees them: the chip and the two lines.
use Rattle.controls.specs.declared.Controls.{Controls}
use Rattle.flash.specs.Side as flash-side
use Rattle.eeprom.specs.Side as eeprom-side

abbrev pub flash_side : Controls → flash-side.Side
flash_side c = record { chip = c.flash; lines = c.lines }

abbrev pub eeprom_side : Controls → eeprom-side.Side
eeprom_side c = record { chip = c.eeprom; lines = c.lines }
