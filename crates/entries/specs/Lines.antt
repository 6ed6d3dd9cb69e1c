-- What the code prints of the bytes that the call of the plan leaves: entries that stand in the list one after the other from a place on, and their number in the result.
use Rattle.std.specs.Prelude.{ℕ, zero, suc, ◌+◌, ◌≤◌, ◌≡◌, List, [], ◌∷◌, ◌++◌, eqb, length, get_or, take, drop}
use Rattle.law.specs.Words.{pick}
use Rattle.page.specs.Geometry.{flash_page}
use Rattle.field.specs.Ends.{tab, lf}
use Rattle.record.specs.Lengths.{plan_result_length}
use Rattle.listing.specs.Bytes.{number_at}
use Rattle.planner.specs.declared.Kind.{Kind}
use Rattle.planner.specs.Kinds.{kind_byte}
use Rattle.entries.specs.Printed.{word_sector_erase, word_chip_erase, word_program, hex_bytes, cycles_line, refusal_line}

-- by the kind byte: the word, what ends the address, how many bytes the entry has
abbrev pub kind_word : ℕ → List ℕ
kind_word kind = pick (eqb kind 3) word_program (pick (eqb kind 2) word_chip_erase word_sector_erase)

abbrev pub address_end : ℕ → List ℕ
address_end kind = pick (eqb kind 3) tab lf

abbrev pub entry_size : ℕ → ℕ
entry_size kind = pick (eqb kind 3) 260 4

-- a byte that is an entry's kind
abbrev pub Known : ℕ → Type 0
Known b = (kind : Kind) × (kind_byte kind ≡ b)

-- kind and address
unfoldable pub head_line : ℕ → ℕ → ℕ → ℕ → List ℕ
head_line kind high middle low = kind_word kind ++ (tab ++ (hex_bytes (high ∷ middle ∷ low ∷ []) ++ address_end kind))

module _ (list : List ℕ) where
  abbrev pub kind_at : ℕ → ℕ
  kind_at p = get_or list p 0

  abbrev pub head_at : ℕ → List ℕ
  head_at p = head_line (kind_at p) (get_or list (p + 1) 0) (get_or list (p + 2) 0) (get_or list (p + 3) 0)

  -- the page of a program
  abbrev pub page_at : ℕ → List ℕ
  page_at p = take flash_page (drop p list)

  unfoldable pub line_at : ℕ → List ℕ
  line_at p = head_at p ++ pick (eqb (kind_at p) 3) (hex_bytes (page_at (p + 4)) ++ lf) []

  -- the lines of so many entries from a place on
  unfoldable pub lines_from : ℕ → ℕ → List ℕ
  lines_from zero p = []
  lines_from (suc n) p = line_at p ++ lines_from n (p + entry_size (kind_at p))

  -- they stand in the list
  unfoldable pub Inside : ℕ → ℕ → Type 0
  Inside zero p = Unit {0}
  Inside (suc n) p = (p + entry_size (kind_at p) ≤ length list) × Inside n (p + entry_size (kind_at p))

  -- and each has the byte of a kind
  unfoldable pub Kinds : ℕ → ℕ → Type 0
  Kinds zero p = Unit {0}
  Kinds (suc n) p = Known (kind_at p) × Kinds n (p + entry_size (kind_at p))

-- the number of entries, behind the answer
abbrev pub number_in : List ℕ → ℕ
number_in result = number_at result 4

-- by the answer: the entries' lines and their number, or the refusal
unfoldable pub outcome_lines : ℕ → List ℕ → List ℕ → List ℕ
outcome_lines answer list result = pick (eqb answer 0) (lines_from list (number_in result) 0 ++ cycles_line (number_in result)) (refusal_line answer)

-- an output of so many bytes has room for them, and the entries stand in the list
pub record Ready (answer : ℕ) (list result : List ℕ) (bytes : ℕ) : Type 0 where
  pub whole : length result ≡ plan_result_length
  pub enough : length (outcome_lines answer list result) ≤ bytes
  pub inside : answer ≡ 0 → Inside list (number_in result) 0
  pub kinds : answer ≡ 0 → Kinds list (number_in result) 0
