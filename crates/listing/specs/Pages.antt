-- Believed: The listing of the pages written (document 02, request 1/12): a heading, a line for each page written, by chip and number, and the last line.
use Rattle.std.specs.Prelude.{ℕ, zero, suc, ◌+◌, ◌*◌, List, [], ◌++◌, eqb, get_or}
use Rattle.law.specs.Words.{pick}
use Rattle.record.specs.declared.Chip.{Chip}
use Rattle.record.specs.declared.Chip.TheVariants.{Flash, Eeprom}
use Rattle.field.specs.Decimal.{decimal}
use Rattle.field.specs.Ends.{tab, lf}
use Rattle.times.specs.Times.{Time, never, written, Times, pages_of, first_entry, entry_length, times_length}
use Rattle.listing.specs.Words.{word_chip, word_page, word_stamp, word_flash, word_eeprom}
use Rattle.listing.specs.Bytes.{number_at}
use Rattle.listing.specs.Listing.{listing_with, Formats}

-- ---- the lines
-- chip, page, stamp
unfoldable pub pages_heading : List ℕ
pages_heading = word_chip ++ (tab ++ (word_page ++ (tab ++ (word_stamp ++ lf))))

-- `flash`, `eeprom`
abbrev pub chip_text : Chip → List ℕ
chip_text Flash = word_flash
chip_text Eeprom = word_eeprom

-- chip, page number and stamp
unfoldable pub page_line : Chip → ℕ → ℕ → List ℕ
page_line chip n stamp = chip_text chip ++ (tab ++ (decimal n ++ (tab ++ (decimal stamp ++ lf))))

-- a page that was never written has no line
unfoldable pub time_line : Chip → ℕ → Time → List ℕ
time_line chip n never = []
time_line chip n (written stamp) = page_line chip n stamp

-- a chip's first n pages, by rising number
unfoldable pub lines_below : Chip → (ℕ → Time) → ℕ → List ℕ
lines_below chip y zero = []
lines_below chip y (suc n) = lines_below chip y n ++ time_line chip n (y n)

-- all pages of both chips, the flash's first
unfoldable pub written_lines : Times → List ℕ
written_lines y = lines_below Flash y.flash (pages_of Flash) ++ lines_below Eeprom y.eeprom (pages_of Eeprom)

-- ---- what a table says
-- of an entry: with the mark 0 never, else the stamp in the four bytes behind the mark
unfoldable pub time_at : List ℕ → ℕ → Time
time_at table e = pick (eqb (get_or table (entry_length * e) 0) 0) never (written (number_at table (entry_length * e + 1)))

abbrev pub times_in : List ℕ → Times
times_in table = record { flash = λ n. time_at table (first_entry Flash + n); eeprom = λ n. time_at table (first_entry Eeprom + n) }

-- ---- the listing
abbrev pub pages_listing : List ℕ → List ℕ → List ℕ
pages_listing table result = listing_with pages_heading (written_lines (times_in table)) result

abbrev pub ListsPages : List ℕ → List ℕ → List ℕ → List ℕ → ℕ → Type 0
ListsPages table result old new n = Formats times_length table result (pages_listing table result) old new n
