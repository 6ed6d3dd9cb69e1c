-- Believed: What the end of a cycle, and a cut of it, make of one kept byte: value v, mask m, data d (document 01; request 3/12).
use Rattle.std.specs.Prelude.{ℕ, ◌-◌, Bool, ◌≡◌, eqb}
use Rattle.std.specs.Int.Bits.{bit_and, bit_or}
use Rattle.cell.specs.declared.Cell.{Cell}

-- NOT x of a byte
abbrev pub not8 : ℕ → ℕ
not8 x = 255 - x

-- 'Flash rules': erase gives ff, 00
abbrev pub erased_cell : Cell
erased_cell = record { value = 255; mask = 0 }

-- 'Supply': an erased sector 00/ff; request 3/12: the page of a cut EEPROM cycle, 00/ff
abbrev pub doubtful_cell : Cell
doubtful_cell = record { value = 0; mask = 255 }

-- 'EEPROM rules': `end` puts the data in, mask 00
abbrev pub stored_cell : ℕ → Cell
stored_cell d = record { value = d; mask = 0 }

-- 'Flash rules': program turns v, m under d into v AND d, m AND d
abbrev pub programmed_cell : Cell → ℕ → Cell
programmed_cell c d = record { value = bit_and c.value d; mask = bit_and c.mask d }

-- 'Supply': a program that is cut gives v AND d and m OR (v AND NOT d)
abbrev pub cut_cell : Cell → ℕ → Cell
cut_cell c d = record { value = bit_and c.value d; mask = bit_or c.mask (bit_and c.value (not8 d)) }

-- 'Bytes and doubt': a read is compared on its sure bits only
abbrev pub agrees_cell : Cell → ℕ → Bool
agrees_cell c seen = eqb (bit_and seen (not8 c.mask)) (bit_and c.value (not8 c.mask))

-- 'Bytes and doubt': a doubtful bit is 0 in the value
unfoldable pub Disjoint : Cell → Type 0
Disjoint c = bit_and c.value c.mask ≡ 0
