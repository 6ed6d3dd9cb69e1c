-- Believed: What a list of erases and programs makes of the whole flash (document 02, request 6/12), by the rules of document 01 that the replay keeps.
use Rattle.std.specs.Prelude.{ℕ, ◌+◌, ◌*◌, ◌/◌, ◌%◌, ◌<◌, ◌≡◌, Bool, true, false, not, List, [], ◌∷◌, eqb, get_or}
use Rattle.law.specs.Words.{pick}
use Rattle.page.specs.Geometry.{flash_page, flash_size}
use Rattle.cell.specs.declared.Cell.{Cell}
use Rattle.cell.specs.Rules.{erased_cell, programmed_cell}
use Rattle.flash.specs.Code.{sector_of, sector_locked}

-- 'sector erases, chip erases and page programs': a sector by its number, from 1; a page by its number on the chip, from 0, with a byte for each of its places: ff where none is to change; a list that is shorter has 00 behind its end
pub data Entry : Type 0 where
  sector_erase : ℕ → Entry
  chip_erase : Entry
  program : ℕ → List ℕ → Entry

-- does it start a cycle? 'PROGRAM or sector erase in a locked sector, and chip erase with all locked, start nothing': all are locked where the first is
abbrev pub starts : ℕ → Entry → Bool
starts status (sector_erase s) = not (sector_locked status s)
starts status chip_erase = not (sector_locked status 1)
starts status (program n bytes) = not (sector_locked status (sector_of (flash_page * n)))

-- is place k among those that the cycle changes? 'chip erase clears the unlocked sectors'
abbrev pub reaches : ℕ → Entry → ℕ → Bool
reaches status (sector_erase s) k = eqb (sector_of k) s
reaches status chip_erase k = not (sector_locked status (sector_of k))
reaches status (program n bytes) k = eqb (k / flash_page) n

-- a byte without doubt
abbrev pub sure : ℕ → Cell
sure v = record { value = v; mask = 0 }

-- what the cycle makes of the byte v at a place k that it changes
abbrev pub ended : Entry → ℕ → ℕ → ℕ
ended (sector_erase s) k v = erased_cell.value
ended chip_erase k v = erased_cell.value
ended (program n bytes) k v = (programmed_cell (sure v) (get_or bytes (k % flash_page) 0)).value

-- the byte at place k after an entry, where it was v
abbrev pub byte_after : ℕ → Entry → ℕ → ℕ → ℕ
byte_after status o k v = pick (starts status o) (pick (reaches status o k) (ended o k v) v) v

-- and after a list of them, the first first
unfoldable pub byte_after_all : ℕ → List Entry → ℕ → ℕ → ℕ
byte_after_all status [] k v = v
byte_after_all status (o ∷ os) k v = byte_after_all status os k (byte_after status o k v)

-- the list yields the wanted content from the present one, byte by byte
unfoldable pub Yields : ℕ → List ℕ → List ℕ → List Entry → Type 0
Yields status present wanted os = (k : ℕ) → k < flash_size → byte_after_all status os k (get_or present k 0) ≡ get_or wanted k 0

-- how many write cycles it takes: an entry that starts nothing takes none
unfoldable pub cycles : ℕ → List Entry → ℕ
cycles status [] = 0
cycles status (o ∷ os) = pick (starts status o) 1 0 + cycles status os

-- does the test hold of an entry of the list?
unfoldable pub has : (Entry → Bool) → List Entry → Bool
has f [] = false
has f (o ∷ os) = pick (f o) true (has f os)

abbrev pub is_chip_erase : Entry → Bool
is_chip_erase (sector_erase s) = false
is_chip_erase chip_erase = true
is_chip_erase (program n bytes) = false
