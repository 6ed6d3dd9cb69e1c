-- The lent images as the code holds them: four slices.
use Rattle.std.specs.Prelude.{◌≡◌, length}
use Rattle.image.specs.Images.{Images, images_of}
use Rattle.machine.specs.declared.LentImages.{LentImages}

-- what they hold
abbrev pub images_in : LentImages → Images
images_in x = images_of x.flash.now x.flash_mask.now x.eeprom.now x.eeprom_mask.now

-- still the same four slices, each as long as it was
pub record Keeps (old new : LentImages) : Type 0 where
  pub same_flash : new.flash.ghost_name ≡ old.flash.ghost_name
  pub same_flash_mask : new.flash_mask.ghost_name ≡ old.flash_mask.ghost_name
  pub same_eeprom : new.eeprom.ghost_name ≡ old.eeprom.ghost_name
  pub same_eeprom_mask : new.eeprom_mask.ghost_name ≡ old.eeprom_mask.ghost_name
  pub flash_long : length new.flash.now ≡ length old.flash.now
  pub flash_mask_long : length new.flash_mask.now ≡ length old.flash_mask.now
  pub eeprom_long : length new.eeprom.now ≡ length old.eeprom.now
  pub eeprom_mask_long : length new.eeprom_mask.now ≡ length old.eeprom_mask.now
