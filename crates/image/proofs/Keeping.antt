-- What every cycle keeps, ended or cut: an image's lengths, that no bit is set in both value and mask, and that all are bytes.
-- Assumes nothing.
use mathlib.Core.Path.{◌≡◌, sym, subst}
use mathlib.Core.Logic.{⊎_elim}
use mathlib.Core.List.{List}
use Prim.Native.Nat.{ℕ, ◌/◌, ◌%◌, ◌<◌}
use native.Mathlib.Omega.{arith}
use lib.Dec.{eqb}
use lib.ListN.{get_or}
use Rattle.law.specs.Choice.{split, of_both, lt_or_le}
use Rattle.law.specs.Words.{pick}
use Rattle.cell.specs.declared.Cell.{Cell}
use Rattle.cell.specs.Rules.{erased_cell, doubtful_cell, stored_cell, programmed_cell, cut_cell, Disjoint}
use Rattle.cell.specs.Bytes.{ByteCell}
use Rattle.cell.proofs.Disjoint.{disjoint_erased, disjoint_doubtful, disjoint_stored, disjoint_programmed, disjoint_cut}
use Rattle.cell.proofs.Neutral.{byte_erased, byte_doubtful, byte_stored, byte_programmed, byte_cut}
use Rattle.page.specs.Geometry.{flash_page, eeprom_page}
use Rattle.page.specs.Rolling.{sent_place}
use Rattle.image.specs.Image.{Image, size_of, spans, cell_at, on_image, in_page, on_page, Clean}
use Rattle.image.specs.Cycles.{program_page, cut_program_page, erase_all, cut_erase_all, store_page, cut_store_page}
use Rattle.image.proofs.Fitting.{on_unfit, page_there, page_none}
use Rattle.image.proofs.Reading.{no_cell, on_spans, on_at, on_past, page_spans}

-- the six rules keep the lengths
module _ (i : Image) (n : ℕ) where
  pub spans_program_page : (number : ℕ) (bytes : List ℕ) → spans n (program_page number bytes i) ≡ spans n i
  unfolding program_page
  spans_program_page number bytes = page_spans flash_page number (λ q c. programmed_cell c (get_or bytes q 0)) i n

  pub spans_cut_program_page : (number : ℕ) (bytes : List ℕ) → spans n (cut_program_page number bytes i) ≡ spans n i
  unfolding cut_program_page
  spans_cut_program_page number bytes = page_spans flash_page number (λ q c. cut_cell c (get_or bytes q 0)) i n

  pub spans_erase_all : spans n (erase_all i) ≡ spans n i
  unfolding erase_all
  spans_erase_all = on_spans (λ k c. erased_cell) i n

  pub spans_cut_erase_all : spans n (cut_erase_all i) ≡ spans n i
  unfolding cut_erase_all
  spans_cut_erase_all = on_spans (λ k c. doubtful_cell) i n

  pub spans_store_page : (number first count : ℕ) (bytes : List ℕ) → spans n (store_page number first count bytes i) ≡ spans n i
  unfolding store_page
  spans_store_page number first count bytes = page_spans eeprom_page number (λ q c. pick (sent_place eeprom_page first count q) (stored_cell (get_or bytes q 0)) c) i n

  pub spans_cut_store_page : (number : ℕ) → spans n (cut_store_page number i) ≡ spans n i
  unfolding cut_store_page
  spans_cut_store_page number = page_spans eeprom_page number (λ q c. doubtful_cell) i n

-- what the rule keeps of each byte, the image keeps of all
module _ (P : Cell → Type 0) (none : P no_cell) (i : Image) (had : (k : ℕ) → P (cell_at i k)) where
  pub on_keeps : (rule : ℕ → Cell → Cell) → ((k : ℕ) (c : Cell) → P c → P (rule k c)) → (k : ℕ) → P (cell_at (on_image rule i) k)
  on_keeps rule keeps k =
      split (spans (size_of i) i)
      (λ t.
      ⊎_elim (λ l. subst P (sym (on_at rule i (size_of i) t k l)) (keeps k (cell_at i k) (had k)))
      (λ l. subst P (sym (on_past rule i (size_of i) t k l)) none) (lt_or_le k (size_of i)))
      (λ t. subst (λ (w : Image). P (cell_at w k)) (sym (on_unfit i rule t)) (had k))

  pub page_keeps : (size number : ℕ) (rule : ℕ → Cell → Cell) → ((q : ℕ) (c : Cell) → P c → P (rule q c)) → (k : ℕ)
      → P (cell_at (on_page size number rule i) k)
  page_keeps size number rule keeps k =
      ⊎_elim
      (λ h.
      subst (λ (w : Image). P (cell_at w k)) (sym (page_there i size number rule h))
      (on_keeps (in_page size number rule)
      (λ j c p. of_both P (eqb (j / size) number) (rule (j % size) c) c (keeps (j % size) c p) p) k))
      (λ h. subst (λ (w : Image). P (cell_at w k)) (sym (page_none i size number rule h)) (had k)) (lt_or_le number (size_of i / size))

-- no doubtful bit is set in the value
module _ (i : Image) (h : Clean i) where
  none : Disjoint no_cell
  none = disjoint_stored 0

  pub clean_program_page : (number : ℕ) (bytes : List ℕ) → Clean (program_page number bytes i)
  unfolding program_page Clean
  clean_program_page number bytes =
      page_keeps Disjoint none i h flash_page number (λ q c. programmed_cell c (get_or bytes q 0)) (λ q c p. disjoint_programmed c (get_or bytes q 0) p)

  pub clean_cut_program_page : (number : ℕ) (bytes : List ℕ) → Clean (cut_program_page number bytes i)
  unfolding cut_program_page Clean
  clean_cut_program_page number bytes =
      page_keeps Disjoint none i h flash_page number (λ q c. cut_cell c (get_or bytes q 0)) (λ q c p. disjoint_cut c (get_or bytes q 0) p)

  pub clean_erase_all : Clean (erase_all i)
  unfolding erase_all Clean
  clean_erase_all = on_keeps Disjoint none i h (λ k c. erased_cell) (λ k c p. disjoint_erased)

  pub clean_cut_erase_all : Clean (cut_erase_all i)
  unfolding cut_erase_all Clean
  clean_cut_erase_all = on_keeps Disjoint none i h (λ k c. doubtful_cell) (λ k c p. disjoint_doubtful)

  pub clean_store_page : (number first count : ℕ) (bytes : List ℕ) → Clean (store_page number first count bytes i)
  unfolding store_page Clean
  clean_store_page number first count bytes =
      page_keeps Disjoint none i h eeprom_page number (λ q c. pick (sent_place eeprom_page first count q) (stored_cell (get_or bytes q 0)) c)
      (λ q c p. of_both Disjoint (sent_place eeprom_page first count q) (stored_cell (get_or bytes q 0)) c (disjoint_stored (get_or bytes q 0)) p)

  pub clean_cut_store_page : (number : ℕ) → Clean (cut_store_page number i)
  unfolding cut_store_page Clean
  clean_cut_store_page number = page_keeps Disjoint none i h eeprom_page number (λ q c. doubtful_cell) (λ q c p. disjoint_doubtful)

-- values and masks are bytes
unfoldable pub Bytes : Image → Type 0
Bytes i = (k : ℕ) → ByteCell (cell_at i k)

-- values and masks stay bytes
module _ (i : Image) (h : Bytes i) where
  zero_byte : ByteCell no_cell
  zero_byte = byte_stored 0 (omega arith)

  pub bytes_program_page : (number : ℕ) (bytes : List ℕ) → Bytes (program_page number bytes i)
  unfolding program_page Bytes
  bytes_program_page number bytes =
      page_keeps ByteCell zero_byte i h flash_page number (λ q c. programmed_cell c (get_or bytes q 0)) (λ q c p. byte_programmed c (get_or bytes q 0) p)

  pub bytes_cut_program_page : (number : ℕ) (bytes : List ℕ) → Bytes (cut_program_page number bytes i)
  unfolding cut_program_page Bytes
  bytes_cut_program_page number bytes =
      page_keeps ByteCell zero_byte i h flash_page number (λ q c. cut_cell c (get_or bytes q 0)) (λ q c p. byte_cut c (get_or bytes q 0) p)

  pub bytes_erase_all : Bytes (erase_all i)
  unfolding erase_all Bytes
  bytes_erase_all = on_keeps ByteCell zero_byte i h (λ k c. erased_cell) (λ k c p. byte_erased)

  pub bytes_cut_erase_all : Bytes (cut_erase_all i)
  unfolding cut_erase_all Bytes
  bytes_cut_erase_all = on_keeps ByteCell zero_byte i h (λ k c. doubtful_cell) (λ k c p. byte_doubtful)

  pub bytes_store_page : (number first count : ℕ) (bytes : List ℕ) → ((q : ℕ) → get_or bytes q 0 < 256) → Bytes (store_page number first count bytes i)
  unfolding store_page Bytes
  bytes_store_page number first count bytes small =
      page_keeps ByteCell zero_byte i h eeprom_page number (λ q c. pick (sent_place eeprom_page first count q) (stored_cell (get_or bytes q 0)) c)
      (λ q c p. of_both ByteCell (sent_place eeprom_page first count q) (stored_cell (get_or bytes q 0)) c (byte_stored (get_or bytes q 0) (small q)) p)

  pub bytes_cut_store_page : (number : ℕ) → Bytes (cut_store_page number i)
  unfolding cut_store_page Bytes
  bytes_cut_store_page number = page_keeps ByteCell zero_byte i h eeprom_page number (λ q c. doubtful_cell) (λ q c p. byte_doubtful)
