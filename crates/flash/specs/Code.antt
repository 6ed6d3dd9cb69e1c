-- Believed: Op-codes, sectors, the lock-out table and the status bits (document 01, 'Flash rules').
use Rattle.std.specs.Prelude.{ℕ, ◌+◌, ◌*◌, ◌/◌, ◌%◌, Bool, true, false, leb, eqb, Option, Some, None}
use Rattle.law.specs.Words.{pick}
use Rattle.page.specs.Geometry.{flash_sector, flash_sectors}
use Rattle.flash.specs.declared.Op.{Op}
use Rattle.flash.specs.declared.Op.TheVariants.{WriteEnable, WriteDisable, ReadStatus, WriteStatus, Read, Program, SectorErase, ChipErase, Identify}

-- the nine op-codes, with 0 for x
abbrev pub instruction : ℕ → Option Op
instruction n =
    pick (eqb n 0b00000110) (Some WriteEnable)
    (pick (eqb n 0b00000100) (Some WriteDisable)
    (pick (eqb n 0b00000101) (Some ReadStatus)
    (pick (eqb n 0b00000001) (Some WriteStatus)
    (pick (eqb n 0b00000011) (Some Read)
    (pick (eqb n 0b00000010) (Some Program)
    (pick (eqb n 0b01010010) (Some SectorErase)
    (pick (eqb n 0b01100010) (Some ChipErase)
    (pick (eqb n 0b00010101) (Some Identify)
    None))))))))

-- x, bit 3 of an op-code, is don't care
abbrev pub decode_of : ℕ → Option Op
decode_of b = instruction (b / 16 * 16 + b % 8)

-- sectors: 1 from 00000, 2 from 08000, 3 from 10000, 4 from 18000; A23 to A17 are ignored
abbrev pub sector_of : ℕ → ℕ
sector_of place = place / flash_sector % flash_sectors + 1

-- locked out by BP1 BP0: 00 none, 01 sector 4, 10 sectors 3 and 4, 11 all
abbrev pub locked_by : ℕ → ℕ → Bool
locked_by bp sector =
    pick (eqb bp 0b00) false
    (pick (eqb bp 0b01) (leb 4 sector)
    (pick (eqb bp 0b10) (leb 3 sector)
    true))

-- BP1 is bit 3 of the status, BP0 bit 2
abbrev pub sector_locked : ℕ → ℕ → Bool
sector_locked status sector = locked_by (status / 4 % 4) sector

-- WPEN is bit 7
abbrev pub wpen : ℕ → Bool
wpen status = leb 128 status

-- write enable is bit 1
abbrev pub enabled : ℕ → Bool
enabled status = eqb (status / 2 % 2) 1

-- bits 7, 3 and 2: what WRSR sets, and all that is left of a status when write enable goes off
abbrev pub kept_bits : ℕ → ℕ
kept_bits b = b / 128 * 128 + b / 4 % 4 * 4

abbrev pub with_enable : ℕ → ℕ
with_enable status = kept_bits status + 2
