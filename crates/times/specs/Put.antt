-- What noting the pages that a record touches leaves in the table.
use Rattle.std.specs.Prelude.{ℕ, ◌+◌, ◌-◌, ◌/◌, ◌%◌, Bool, false, List, leb, ltb}
use Rattle.law.specs.Words.{pick, by_place}
use Rattle.record.specs.declared.Chip.{Chip}
use Rattle.record.specs.declared.Chip.TheVariants.{Flash, Eeprom}
use Rattle.times.specs.declared.Pages.{Pages}
use Rattle.times.specs.declared.Touched.{Touched}
use Rattle.times.specs.Times.{reaches, written, pages_of, first_entry, entry_byte, entry_length}

-- the bytes of `many` entries from the entry `first` on are those of the stamp
abbrev pub entry_from : ℕ → ℕ → ℕ → ℕ → ℕ → ℕ
entry_from first many stamp k x =
    pick (leb first (k / entry_length)) (pick (ltb (k / entry_length) (first + many)) (entry_byte (written stamp) (k % entry_length)) x) x

unfoldable pub entries_with : ℕ → ℕ → ℕ → List ℕ → List ℕ
entries_with first many stamp table = by_place (entry_from first many stamp) 0 table

-- is entry e that of a page of the chip that is touched?
abbrev pub notes : Chip → Pages → ℕ → Bool
notes chip p e = pick (leb (first_entry chip) e) (pick (ltb e (first_entry chip + pages_of chip)) (reaches p (e - first_entry chip)) false) false

-- the table with the pages of one chip
unfoldable pub pages_with : Chip → ℕ → Pages → List ℕ → List ℕ
pages_with chip stamp p table = by_place (λ k x. pick (notes chip p (k / entry_length)) (entry_byte (written stamp) (k % entry_length)) x) 0 table

-- and of both
unfoldable pub times_with : ℕ → Touched → List ℕ → List ℕ
times_with stamp x table = pages_with Eeprom stamp x.eeprom (pages_with Flash stamp x.flash table)
