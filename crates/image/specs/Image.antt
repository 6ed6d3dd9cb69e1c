-- Believed: The kept bytes of a chip: their values and their masks of doubtful bits.
use Rattle.std.specs.Prelude.{ℕ, ◌/◌, ◌%◌, Bool, false, List, eqb, ltb, length, get_or}
use Rattle.law.specs.Words.{pick, by_place}
use Rattle.cell.specs.declared.Cell.{Cell}
use Rattle.cell.specs.Rules.{Disjoint}

pub record Image : Type 0 where
  pub values : List ℕ
  pub masks : List ℕ

abbrev pub image_of : List ℕ → List ℕ → Image
image_of values masks = record { values = values; masks = masks }

-- how many bytes are kept, by the values: an image has its own length
abbrev pub size_of : Image → ℕ
size_of i = length i.values

-- a kept byte is a value and a mask: does it have n of both?
unfoldable pub spans : ℕ → Image → Bool
spans n i = pick (eqb (length i.values) n) (eqb (length i.masks) n) false

-- the kept byte at a place
abbrev pub cell_at : Image → ℕ → Cell
cell_at i k = record { value = get_or i.values k 0; mask = get_or i.masks k 0 }

-- what a rule makes of a value v, and of a mask m, at place k
abbrev pub value_by : (ℕ → Cell → Cell) → List ℕ → ℕ → ℕ → ℕ
value_by rule masks k v = (rule k (record { value = v; mask = get_or masks k 0 })).value

abbrev pub mask_by : (ℕ → Cell → Cell) → List ℕ → ℕ → ℕ → ℕ
mask_by rule values k m = (rule k (record { value = get_or values k 0; mask = m })).mask

-- every kept byte by a rule that gets its place
unfoldable pub each_place : (ℕ → Cell → Cell) → Image → Image
each_place rule i =
    image_of (by_place (value_by rule i.masks) 0 i.values) (by_place (mask_by rule i.values) 0 i.masks)

-- the same of an image with as many masks as values; another stays as it is
unfoldable pub on_image : (ℕ → Cell → Cell) → Image → Image
on_image rule i = pick (spans (size_of i) i) (each_place rule i) i

-- place k is place k % size of page k / size: only those of page `number` change
abbrev pub in_page : ℕ → ℕ → (ℕ → Cell → Cell) → ℕ → Cell → Cell
in_page size number rule k c = pick (eqb (k / size) number) (rule (k % size) c) c

-- page `number` of such an image; a number past its last whole page changes nothing
unfoldable pub on_page : ℕ → ℕ → (ℕ → Cell → Cell) → Image → Image
on_page size number rule i = pick (ltb number (size_of i / size)) (on_image (in_page size number rule) i) i

-- 'Bytes and doubt': a doubtful bit is 0 in the value, at every place
unfoldable pub Clean : Image → Type 0
Clean i = (k : ℕ) → Disjoint (cell_at i k)
