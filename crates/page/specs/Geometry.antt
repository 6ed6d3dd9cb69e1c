-- Believed: The chips' geometry (document 01, 'What is replayed', 'Flash rules', 'EEPROM rules'). Each of its numbers is named here.
use Rattle.std.specs.Prelude.{ℕ, ◌*◌, ◌/◌}

-- 'low eight address bits roll over inside the page'
abbrev pub flash_page : ℕ
flash_page = 256

-- 'Sectors: 1 from 00000, 2 from 08000, 3 from 10000, 4 from 18000'
abbrev pub flash_sector : ℕ
flash_sector = 0x8000

abbrev pub flash_sectors : ℕ
flash_sectors = 4

abbrev pub flash_size : ℕ
flash_size = flash_sectors * flash_sector

abbrev pub sector_pages : ℕ
sector_pages = flash_sector / flash_page

-- all pages of the flash
abbrev pub chip_pages : ℕ
chip_pages = flash_sectors * sector_pages

-- 'The low six bits roll over in a 64-byte page'; 'The EEPROM's 32,768 bytes'
abbrev pub eeprom_page : ℕ
eeprom_page = 64

abbrev pub eeprom_size : ℕ
eeprom_size = 0x8000
