-- Believed: What a plan must be (document 02, request 6/12): the fewest cycles, no chip erase without need, the stated order, whole wanted pages; and its bytes.
use Rattle.std.specs.Prelude.{ℕ, ◌+◌, ◌-◌, ◌*◌, ◌/◌, ◌%◌, ◌≤◌, ◌<◌, ◌≡◌, true, List, [], ◌∷◌, ◌++◌, length, get_or, take, drop}
use Rattle.law.specs.Words.{All}
use Rattle.page.specs.Geometry.{flash_page, flash_sector, flash_sectors, flash_size, chip_pages}
use Rattle.flash.specs.Code.{sector_of, sector_locked}
use Rattle.fewest.specs.Entries.{Entry, sector_erase, chip_erase, program, Yields, cycles, has, is_chip_erase}

-- os yields the wanted content, each of its entries is a cycle, and no list that yields it takes fewer; 'Among equal numbers, prefer one without chip erase': it has one only where every list with as few cycles has one
pub record Fewest (status : ℕ) (present wanted : List ℕ) (os : List Entry) : Type 0 where
  pub yields : Yields status present wanted os
  pub all_start : cycles status os ≡ length os
  pub fewest : (other : List Entry) → Yields status present wanted other → length os ≤ cycles status other
  pub chip_erase_lem : has is_chip_erase os ≡ true
      → (other : List Entry) → Yields status present wanted other → cycles status other ≡ length os → has is_chip_erase other ≡ true

-- 'its sector's or page's first, chip 0'
abbrev pub first_place : Entry → ℕ
first_place (sector_erase s) = flash_sector * (s - 1)
first_place chip_erase = 0
first_place (program n bytes) = flash_page * n

-- a program stands behind every erase (of sectors that the chip has: `Formed`)
abbrev pub rank : Entry → ℕ
rank (sector_erase s) = first_place (sector_erase s)
rank chip_erase = first_place chip_erase
rank (program n bytes) = flash_size + first_place (program n bytes)

-- 'all erases stand before all programs, each kind by rising address'
unfoldable pub InOrder : List Entry → Type 0
InOrder [] = Unit {0}
InOrder (o ∷ os) = All (λ p. rank o < rank p) os × InOrder os

-- page n of a content
abbrev pub page_of : List ℕ → ℕ → List ℕ
page_of content n = take flash_page (drop (flash_page * n) content)

-- sectors and pages are the chip's, and a program has its 'whole wanted page'
abbrev pub Formed : List ℕ → Entry → Type 0
Formed wanted (sector_erase s) = (1 ≤ s) × (s ≤ flash_sectors)
Formed wanted chip_erase = Unit {0}
Formed wanted (program n bytes) = (n < chip_pages) × (bytes ≡ page_of wanted n)

-- what the list given must be; there is only one such list (claim 28)
pub record IsPlan (status : ℕ) (present wanted : List ℕ) (os : List Entry) : Type 0 where
  pub few : Fewest status present wanted os
  pub order : InOrder os
  pub formed : All (Formed wanted) os

-- refusal 15: 'a byte that differs stands in a locked sector'
abbrev pub DiffersLocked : ℕ → List ℕ → List ℕ → Type 0
DiffersLocked status present wanted =
    (k : ℕ) × (k < flash_size) × (sector_locked status (sector_of k) ≡ true) × (get_or present k 0 ≡ get_or wanted k 0 → ⊥)

-- 'three address bytes, high first'
abbrev pub address : ℕ → List ℕ
address a = (a / 65536 % 256) ∷ (a / 256 % 256) ∷ (a % 256) ∷ []

-- 'An entry is a kind byte (1 sector erase, 2 chip erase, 3 program), three address bytes, .. and a program's whole wanted page'
abbrev pub spelled_entry : Entry → List ℕ
spelled_entry (sector_erase s) = 1 ∷ address (first_place (sector_erase s))
spelled_entry chip_erase = 2 ∷ address (first_place chip_erase)
spelled_entry (program n bytes) = 3 ∷ (address (first_place (program n bytes)) ++ bytes)

unfoldable pub spelled_list : List Entry → List ℕ
spelled_list [] = []
spelled_list (o ∷ os) = spelled_entry o ++ spelled_list os

-- no plan takes more bytes: 512 programs and an erase (claim 29)
abbrev pub most_room : ℕ
most_room = chip_pages * (4 + flash_page) + 4
