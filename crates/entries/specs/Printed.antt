-- Believed: What the program `plan` prints of two contents and a status (document 02, request 6/12): a line for each entry and the number of cycles, or the refusal.
use Rattle.std.specs.Prelude.{ℕ, ◌+◌, ◌*◌, ◌≤◌, ◌<◌, ◌≡◌, List, [], ◌∷◌, ◌++◌, length}
use Rattle.page.specs.Geometry.{flash_page, flash_size, chip_pages}
use Rattle.record.specs.declared.PlanAnswer.TheVariants.{Unfit, Locked}
use Rattle.record.specs.Answers.{plan_answer_number}
use Rattle.record.specs.Status.{StatusOk}
use Rattle.field.specs.Decimal.{decimal}
use Rattle.field.specs.Hex.{hex_field}
use Rattle.field.specs.Ends.{tab, lf}
use Rattle.listing.specs.Words.{word_refused}
use Rattle.fewest.specs.Entries.{Entry, sector_erase, chip_erase, program}
use Rattle.fewest.specs.Fewest.{IsPlan, DiffersLocked, address, first_place}
use Rattle.fewest.specs.Call.{laid_over}

-- ---- the lines
-- `sector-erase`, `chip-erase`, `program`, `cycles`
abbrev pub word_sector_erase : List ℕ
word_sector_erase = 115 ∷ 101 ∷ 99 ∷ 116 ∷ 111 ∷ 114 ∷ 45 ∷ 101 ∷ 114 ∷ 97 ∷ 115 ∷ 101 ∷ []

abbrev pub word_chip_erase : List ℕ
word_chip_erase = 99 ∷ 104 ∷ 105 ∷ 112 ∷ 45 ∷ 101 ∷ 114 ∷ 97 ∷ 115 ∷ 101 ∷ []

abbrev pub word_program : List ℕ
word_program = 112 ∷ 114 ∷ 111 ∷ 103 ∷ 114 ∷ 97 ∷ 109 ∷ []

abbrev pub word_cycles : List ℕ
word_cycles = 99 ∷ 121 ∷ 99 ∷ 108 ∷ 101 ∷ 115 ∷ []

-- bytes in hex, one after the other
unfoldable pub hex_bytes : List ℕ → List ℕ
hex_bytes [] = []
hex_bytes (b ∷ bs) = hex_field b ++ hex_bytes bs

-- kind and address, for a program also its page
unfoldable pub entry_line : Entry → List ℕ
entry_line (sector_erase s) = word_sector_erase ++ (tab ++ (hex_bytes (address (first_place (sector_erase s))) ++ lf))
entry_line chip_erase = word_chip_erase ++ (tab ++ (hex_bytes (address (first_place chip_erase)) ++ lf))
entry_line (program n bytes) = word_program ++ (tab ++ (hex_bytes (address (first_place (program n bytes))) ++ (tab ++ (hex_bytes bytes ++ lf))))

unfoldable pub entry_lines : List Entry → List ℕ
entry_lines [] = []
entry_lines (o ∷ os) = entry_line o ++ entry_lines os

unfoldable pub cycles_line : ℕ → List ℕ
cycles_line n = word_cycles ++ (tab ++ (decimal n ++ lf))

unfoldable pub refusal_line : ℕ → List ℕ
refusal_line answer = word_refused ++ (tab ++ (decimal answer ++ lf))

-- enough for whatever is printed: of each page a program's line, at most four erases' lines, a last line
abbrev pub print_room : ℕ
print_room = (2 * flash_page + 16) * chip_pages + 256

-- ---- what is printed
module _ (present wanted text : List ℕ) where
  -- the contents are the whole chip's, and the text is a status as line 1 of a trace spells it, and LF
  pub record Usable (status : ℕ) : Type 0 where
    pub present_whole : length present ≡ flash_size
    pub wanted_whole : length wanted ≡ flash_size
    pub spelled : text ≡ hex_field status ++ lf
    pub status_bits : StatusOk status

  -- the refusal for want of room is never printed: the program lends the call a list that has room for every plan
  pub data PlanPrinted : List ℕ → Type 0 where
    unfit : ((status : ℕ) → Usable status → ⊥) → PlanPrinted (refusal_line (plan_answer_number Unfit))
    locked : (status : ℕ) → Usable status → DiffersLocked status present wanted → PlanPrinted (refusal_line (plan_answer_number Locked))
    planned : (status : ℕ) (os : List Entry) → Usable status → (DiffersLocked status present wanted → ⊥) → IsPlan status present wanted os
        → PlanPrinted (entry_lines os ++ cycles_line (length os))

  -- it stands at the front of the output, the rest of which stays, and n is its length; an output without that room stays as it was, and n is 0
  pub record PrintsPlan (old new : List ℕ) (n : ℕ) : Type 0 where
    pub printed : List ℕ
    pub is : PlanPrinted printed
    pub written : print_room ≤ length old → (n ≡ length printed) × (new ≡ laid_over printed old)
    pub short : length old < print_room → (n ≡ 0) × (new ≡ old)
