-- What stands at a place after a cycle that ended or was cut; that only the places sent change, but for a cut EEPROM write, which reaches its whole page. Assumes
-- nothing.
use mathlib.Core.Path.{◌≡◌, ap, ap₂, ◌∙◌}
use mathlib.Core.Bool.{true, false}
use mathlib.Core.List.{List}
use Prim.Native.Nat.{ℕ, ◌+◌, ◌*◌, ◌/◌, ◌%◌, ◌≤◌, ◌<◌}
use native.Mathlib.Omega.{arith}
use lib.ListN.{length, get_or, replicate, get_or-replicate}
use Rattle.law.specs.Words.{pick}
use Rattle.cell.specs.declared.Cell.{Cell}
use Rattle.cell.specs.Rules.{erased_cell, doubtful_cell, stored_cell, programmed_cell, cut_cell}
use Rattle.cell.specs.Bytes.{ByteCell}
use Rattle.cell.proofs.Neutral.{programmed_ff, cut_ff}
use Rattle.page.specs.Geometry.{flash_page, eeprom_page}
use Rattle.page.specs.Rolling.{sent_place}
use Rattle.page.specs.Roll.{roll}
use Rattle.page.specs.Laws.{roll_unsent}
use Rattle.image.specs.Image.{Image, size_of, spans, cell_at}
use Rattle.image.specs.Cycles.{program_page, cut_program_page, erase_all, cut_erase_all, store_page, cut_store_page}
use Rattle.image.proofs.Reading.{on_at, page_at_place, page_same}
use Rattle.image.proofs.Fitting.{page_none}

-- an image of n bytes
module _ (i : Image) (n : ℕ) (t : spans n i ≡ true) where
  pub erase_all_at : (k : ℕ) → k < n → cell_at (erase_all i) k ≡ erased_cell
  unfolding erase_all
  erase_all_at = on_at (λ k c. erased_cell) i n t

  pub cut_erase_all_at : (k : ℕ) → k < n → cell_at (cut_erase_all i) k ≡ doubtful_cell
  unfolding cut_erase_all
  cut_erase_all_at = on_at (λ k c. doubtful_cell) i n t

  module _ (number : ℕ) (bytes : List ℕ) (h : number < n / flash_page) (q : ℕ) (l : q < flash_page) where
    pub program_page_at : cell_at (program_page number bytes i) (flash_page * number + q) ≡ programmed_cell (cell_at i (flash_page * number + q)) (get_or bytes q 0)
    unfolding program_page
    program_page_at = page_at_place flash_page number (λ j c. programmed_cell c (get_or bytes j 0)) i n t h q l

    -- an erased place that is programmed has the data, whole
    pub program_page_erased : cell_at i (flash_page * number + q) ≡ erased_cell → (d : ℕ) → get_or bytes q 0 ≡ d → cell_at (program_page number bytes i) (flash_page * number + q) ≡ programmed_cell erased_cell d
    program_page_erased e d b = program_page_at ∙ ap₂ (λ (c : Cell) (x : ℕ). programmed_cell c x) e b

    pub cut_program_page_at : cell_at (cut_program_page number bytes i) (flash_page * number + q) ≡ cut_cell (cell_at i (flash_page * number + q)) (get_or bytes q 0)
    unfolding cut_program_page
    cut_program_page_at = page_at_place flash_page number (λ j c. cut_cell c (get_or bytes j 0)) i n t h q l

  module _ (number first count : ℕ) (bytes : List ℕ) (h : number < n / eeprom_page) (q : ℕ) (l : q < eeprom_page) (w : sent_place eeprom_page first count q ≡ true) where
    pub store_page_at : cell_at (store_page number first count bytes i) (eeprom_page * number + q) ≡ stored_cell (get_or bytes q 0)
    unfolding store_page
    store_page_at =
        page_at_place eeprom_page number (λ j c. pick (sent_place eeprom_page first count j) (stored_cell (get_or bytes j 0)) c) i n t h q l ∙ simp w

  -- cut, each place of the page is in doubt
  pub cut_store_page_at : (number : ℕ) → number < n / eeprom_page → (q : ℕ) → q < eeprom_page → cell_at (cut_store_page number i) (eeprom_page * number + q) ≡ doubtful_cell
  unfolding cut_store_page
  cut_store_page_at number h q l = page_at_place eeprom_page number (λ j c. doubtful_cell) i n t h q l

-- a place that was not sent is as it was
module _ (number first count : ℕ) (bytes : List ℕ) (i : Image) (k : ℕ) (u : sent_place eeprom_page first count (k % eeprom_page) ≡ false) where
  pub store_page_unsent : cell_at (store_page number first count bytes i) k ≡ cell_at i k
  unfolding store_page
  store_page_unsent = page_same eeprom_page number (λ q c. pick (sent_place eeprom_page first count q) (stored_cell (get_or bytes q 0)) c) i k (simp u)

-- ff changes nothing
module _ (number : ℕ) (bytes : List ℕ) (i : Image) (k : ℕ) (b : ByteCell (cell_at i k)) (u : get_or bytes (k % flash_page) 0 ≡ 255) where
  pub program_page_ff : cell_at (program_page number bytes i) k ≡ cell_at i k
  unfolding program_page
  program_page_ff =
      page_same flash_page number (λ q c. programmed_cell c (get_or bytes q 0)) i k
      (ap (programmed_cell (cell_at i k)) u ∙ programmed_ff (cell_at i k) b)

  pub cut_program_page_ff : cell_at (cut_program_page number bytes i) k ≡ cell_at i k
  unfolding cut_program_page
  cut_program_page_ff =
      page_same flash_page number (λ q c. cut_cell c (get_or bytes q 0)) i k (ap (cut_cell (cell_at i k)) u ∙ cut_ff (cell_at i k) b)

-- so of the bytes ds, sent from place first on into a page of ff, only the places sent change
module _ (number first : ℕ) (ds : List ℕ) (i : Image) (k : ℕ) (b : ByteCell (cell_at i k)) (f : first < flash_page)
    (u : sent_place flash_page first (length ds) (k % flash_page) ≡ false) where
  unsent_ff : get_or (roll flash_page first ds (replicate flash_page 255)) (k % flash_page) 0 ≡ 255
  unsent_ff = roll_unsent flash_page first ds (replicate flash_page 255) (k % flash_page) f u ∙ get_or-replicate {A = ℕ} flash_page (k % flash_page) 255 0 (omega arith)

  pub program_page_unsent : cell_at (program_page number (roll flash_page first ds (replicate flash_page 255)) i) k ≡ cell_at i k
  program_page_unsent = program_page_ff number (roll flash_page first ds (replicate flash_page 255)) i k b unsent_ff

  pub cut_program_page_unsent : cell_at (cut_program_page number (roll flash_page first ds (replicate flash_page 255)) i) k ≡ cell_at i k
  cut_program_page_unsent = cut_program_page_ff number (roll flash_page first ds (replicate flash_page 255)) i k b unsent_ff

-- a page number that no page has changes nothing
module _ (number : ℕ) (i : Image) where
  pub program_page_none : (bytes : List ℕ) → size_of i / flash_page ≤ number → program_page number bytes i ≡ i
  unfolding program_page
  program_page_none bytes h = page_none i flash_page number (λ q c. programmed_cell c (get_or bytes q 0)) h

  pub cut_program_page_none : (bytes : List ℕ) → size_of i / flash_page ≤ number → cut_program_page number bytes i ≡ i
  unfolding cut_program_page
  cut_program_page_none bytes h = page_none i flash_page number (λ q c. cut_cell c (get_or bytes q 0)) h

  pub store_page_none : (first count : ℕ) (bytes : List ℕ) → size_of i / eeprom_page ≤ number → store_page number first count bytes i ≡ i
  unfolding store_page
  store_page_none first count bytes h = page_none i eeprom_page number (λ q c. pick (sent_place eeprom_page first count q) (stored_cell (get_or bytes q 0)) c) h

  pub cut_store_page_none : size_of i / eeprom_page ≤ number → cut_store_page number i ≡ i
  unfolding cut_store_page
  cut_store_page_none h = page_none i eeprom_page number (λ q c. doubtful_cell) h
