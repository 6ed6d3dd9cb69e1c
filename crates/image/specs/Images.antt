-- Believed: The chips' images as one: one field for each chip, and what is said of each.
use Rattle.std.specs.Prelude.{ℕ, ◌≡◌, Bool, true, false, List}
use Rattle.law.specs.Words.{pick}
use Rattle.page.specs.Geometry.{flash_page, flash_sector, eeprom_page, eeprom_size}
use Rattle.record.specs.declared.Chip.{Chip}
use Rattle.record.specs.declared.Chip.TheVariants.{Flash, Eeprom}
use Rattle.image.specs.Image.{Image, image_of, spans, Clean}

pub record Images : Type 0 where
  pub flash : Image
  pub eeprom : Image

-- flash values, flash masks, EEPROM values, EEPROM masks
abbrev pub images_of : List ℕ → List ℕ → List ℕ → List ℕ → Images
images_of fv fm ev em = record { flash = image_of fv fm; eeprom = image_of ev em }

-- a thing for each chip
abbrev pub per_chip : {A : Type 0} → A → A → Chip → A
per_chip flash eeprom Flash = flash
per_chip flash eeprom Eeprom = eeprom

-- does the test hold of each?
abbrev pub every_chip : (Chip → Bool) → Bool
every_chip test = pick (test Flash) (test Eeprom) false

-- a chip's image
abbrev pub image_at : Chip → Images → Image
image_at chip x = per_chip x.flash x.eeprom chip

-- 'its bytes are kept for one watched sector of 32,768. The EEPROM's 32,768 bytes are all kept': what refusals 1 and 11 ask for
abbrev pub kept_bytes : Chip → ℕ
kept_bytes Flash = flash_sector
kept_bytes Eeprom = eeprom_size

-- how long a page is
abbrev pub page_size : Chip → ℕ
page_size Flash = flash_page
page_size Eeprom = eeprom_page

-- every image has its chip's length
abbrev pub Kept : Images → Type 0
Kept x = (chip : Chip) → spans (kept_bytes chip) (image_at chip x) ≡ true

-- and in none is a doubtful bit 1 in the value
abbrev pub AllClean : Images → Type 0
AllClean x = (chip : Chip) → Clean (image_at chip x)
