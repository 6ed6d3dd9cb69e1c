-- A page changed place by place by a step that the code is given: the step follows a rule.
use Rattle.std.specs.Prelude.{ℕ, ◌≡◌, ◌<◌, List, get_or}
use Rattle.cell.specs.declared.Cell.{Cell}
use Rattle.page.specs.Geometry.{flash_page}

-- the step may be asked at each place of a page
abbrev pub Takes : (ℕ → Cell → ℕ → Type 0) → Type 0
Takes pre = (q : ℕ) (c : Cell) (d : ℕ) → q < flash_page → pre q c d

-- and makes there of the kept byte c and its data d what the rule says
abbrev pub Follows : (ℕ → Cell → ℕ → Cell → Type 0) → (ℕ → Cell → ℕ → Cell) → Type 0
Follows post rule = (q : ℕ) (c : Cell) (d : ℕ) (r : Cell) → q < flash_page → post q c d r → r ≡ rule q c d

-- what becomes of place q with its data
abbrev pub changed_place : (ℕ → Cell → ℕ → Cell) → List ℕ → ℕ → Cell → Cell
changed_place rule bytes q c = rule q c (get_or bytes q 0)
