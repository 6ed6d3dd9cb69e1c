-- Believed: What a cycle makes of a chip's kept bytes: one rule where it ended whole, one where the supply cut it (document 01, 'Flash rules',
-- 'EEPROM rules', 'Supply'; request 3/12).
use Rattle.std.specs.Prelude.{ℕ, List, get_or}
use Rattle.law.specs.Words.{pick}
use Rattle.cell.specs.Rules.{erased_cell, doubtful_cell, stored_cell, programmed_cell, cut_cell}
use Rattle.page.specs.Geometry.{flash_page, eeprom_page}
use Rattle.page.specs.Rolling.{sent_place}
use Rattle.image.specs.Image.{Image, on_image, on_page}

-- PROGRAM at `end`. `bytes` has ff where nothing was sent, which changes nothing: so only the bytes sent change (law `program_page_unsent`)
unfoldable pub program_page : ℕ → List ℕ → Image → Image
program_page number bytes = on_page flash_page number (λ q c. programmed_cell c (get_or bytes q 0))

-- PROGRAM at `off`
unfoldable pub cut_program_page : ℕ → List ℕ → Image → Image
cut_program_page number bytes = on_page flash_page number (λ q c. cut_cell c (get_or bytes q 0))

-- an erase that reaches the watched sector, at `end`
unfoldable pub erase_all : Image → Image
erase_all = on_image (λ k c. erased_cell)

-- the same at `off`
unfoldable pub cut_erase_all : Image → Image
cut_erase_all = on_image (λ k c. doubtful_cell)

-- an EEPROM write at `end`: the bytes sent are put in
unfoldable pub store_page : ℕ → ℕ → ℕ → List ℕ → Image → Image
store_page number first count bytes = on_page eeprom_page number (λ q c. pick (sent_place eeprom_page first count q) (stored_cell (get_or bytes q 0)) c)

-- an EEPROM write at `off`: the whole page is 00/ff, sent or not (request 3/12, in place of 'the EEPROM bytes sent 00/ff, others unchanged')
unfoldable pub cut_store_page : ℕ → Image → Image
cut_store_page number = on_page eeprom_page number (λ q c. doubtful_cell)
