-- An EEPROM write that the chip has taken (eeprom/proofs/Written). At `end` only the bytes sent change, and a later byte for a place replaces the earlier; at `off` the
-- whole page is in doubt, and no other; either is its page's time, and no other's. Assumes nothing.
use Prim.Native.Nat.{ℕ, suc, ◌+◌, ◌*◌, ◌/◌, ◌%◌, ◌<◌}
use native.Mathlib.Nat.{mod-lt}
use native.Mathlib.Omega.{arith}
use mathlib.Core.Bool.{true, false}
use mathlib.Core.Logic.{◌≢◌}
use mathlib.Core.Path.{◌≡◌, refl, sym, ap, ◌∙◌}
use mathlib.Core.List.{List, ◌∷◌, ◌++◌}
use lib.Dec.{eqb}
use lib.ListN.{length, get_or, length-append}
use borrow.Author.Tests.{eqb-true, eqb-false}
use Rattle.law.specs.Choice.{split}
use Rattle.law.specs.Words.{pick}
use Rattle.page.specs.Geometry.{eeprom_page, eeprom_size}
use Rattle.page.specs.Rolling.{sent_place}
use Rattle.page.specs.Roll.{place, roll, place_after}
use Rattle.page.specs.Laws.{sent_place_lem, none_sent}
use Rattle.cell.specs.Rules.{stored_cell, doubtful_cell}
use Rattle.image.specs.Image.{Image, spans, cell_at}
use Rattle.image.specs.Cycles.{store_page, cut_store_page}
use Rattle.image.proofs.Reading.{page_off}
use Rattle.image.proofs.AtPlace.{store_page_at, cut_store_page_at, store_page_unsent}
use Rattle.eeprom.specs.Chip as eeprom_chip
use Rattle.eeprom.proofs.Written as eeprom
use Rattle.eeprom.proofs.Written.{write_of, writing, sent_as}
use Rattle.times.specs.Times.{written}
use Rattle.machine.specs.declared.effects.Stroke.TheVariants.{Whole, Cut}
use Rattle.machine.specs.Effects.{eeprom_after}
use Rattle.machine.proofs.Memory.{Memory, eeprom_struck}

module _ (a : ℕ) (ds : List ℕ) (i : Image) (k : ℕ) (none : (j : ℕ) → j < length ds → place_after eeprom_page a j ≢ k) where
  -- in the page, a place that is not sent
  not_stored : k / eeprom_page ≡ a / eeprom_page → sent_place eeprom_page (write_of a (length ds)).first (write_of a (length ds)).count (k % eeprom_page) ≡ false
  not_stored p =
      sent_as a (length ds) (k % eeprom_page)
      ∙ none_sent eeprom_page (a % eeprom_page) (omega arith) (length ds) (k % eeprom_page) (omega arith)
      (λ j l h. none j l (ap (λ (q : ℕ). a / eeprom_page * eeprom_page + q) h ∙ here)) where
        here : a / eeprom_page * eeprom_page + k % eeprom_page ≡ k
        here = omega arith

  -- only the bytes sent change
  pub only_stored : cell_at (eeprom_after Whole (writing a ds) i) k ≡ cell_at i k
  unfolding eeprom_after store_page
  only_stored =
      let s = write_of a (length ds) in
      let bytes = roll eeprom_page (a % eeprom_page) ds eeprom_chip.blank in
      split (eqb (k / eeprom_page) (a / eeprom_page))
      (λ p. store_page_unsent s.page s.first s.count bytes i k (not_stored (eqb-true _ _ p)))
      (λ p. page_off eeprom_page s.page (λ q c. pick (sent_place eeprom_page s.first s.count q) (stored_cell (get_or bytes q 0)) c) i k (eqb-false _ _ p))

-- cut, whatever was sent from the place a on: each place of a's page is in doubt, and each of another page as it was (request 3/12)
module _ (a : ℕ) (ds : List ℕ) (i : Image) (k : ℕ) where
  pub cut_in_page : a < eeprom_size → spans eeprom_size i ≡ true → k / eeprom_page ≡ a / eeprom_page → cell_at (eeprom_after Cut (writing a ds) i) k ≡ doubtful_cell
  unfolding eeprom_after
  cut_in_page inside fit p =
      let here : eeprom_page * (a / eeprom_page) + k % eeprom_page ≡ k = omega arith in
      ap (cell_at (cut_store_page (a / eeprom_page) i)) (sym here)
      ∙ cut_store_page_at i eeprom_size fit (a / eeprom_page) (omega arith) (k % eeprom_page) (omega arith)

  pub cut_elsewhere : k / eeprom_page ≢ a / eeprom_page → cell_at (eeprom_after Cut (writing a ds) i) k ≡ cell_at i k
  unfolding eeprom_after cut_store_page
  cut_elsewhere n = page_off eeprom_page (a / eeprom_page) (λ q c. doubtful_cell) i k n

-- its page is written at the stamp t of the `end` or the `off`, and no other, whatever was sent (request 1/12)
module _ (a : ℕ) (ds : List ℕ) (t : ℕ) (k : Memory) (n : ℕ) where
  pub page_stored : (eeprom_struck t (writing a ds) Whole k).times n ≡ pick (eqb n (a / eeprom_page)) (written t) (k.times n)
  page_stored = refl

  pub page_stored_cut : (eeprom_struck t (writing a ds) Cut k).times n ≡ pick (eqb n (a / eeprom_page)) (written t) (k.times n)
  page_stored_cut = refl

-- 'a later byte for a place replaces the earlier'
module _ (a : ℕ) (inside : a < eeprom_size) (before : List ℕ) (d : ℕ) (later : List ℕ)
    (none : (j : ℕ) → j < length later → place_after eeprom_page a (length before + suc j) ≢ place_after eeprom_page a (length before))
    (i : Image) (fit : spans eeprom_size i ≡ true) where
  abbrev at : ℕ
  at = place eeprom_page (a % eeprom_page) (length before)

  small : at < eeprom_page
  small = mod-lt (a % eeprom_page + length before) (omega arith)

  its_place : eeprom_page * (a / eeprom_page) + at ≡ place_after eeprom_page a (length before)
  its_place = omega arith

  its_byte : get_or (writing a (before ++ (d ∷ later))).page at 0 ≡ d
  its_byte = eeprom.later_stays a before d later (λ j l e. none j l (ap (λ (q : ℕ). a / eeprom_page * eeprom_page + q) e))

  its_sent : sent_place eeprom_page (write_of a (length (before ++ (d ∷ later)))).first (write_of a (length (before ++ (d ∷ later)))).count at ≡ true
  its_sent =
      let n : length (before ++ (d ∷ later)) ≡ length before + suc (length later) = length-append before (d ∷ later) in
      sent_as a (length (before ++ (d ∷ later))) at
      ∙ sent_place_lem eeprom_page (a % eeprom_page) (omega arith) (length (before ++ (d ∷ later))) (length before) (omega arith)

  pub later_stored : cell_at (eeprom_after Whole (writing a (before ++ (d ∷ later))) i) (place_after eeprom_page a (length before)) ≡ stored_cell d
  unfolding eeprom_after
  later_stored =
      let s = write_of a (length (before ++ (d ∷ later))) in
      let bytes = roll eeprom_page (a % eeprom_page) (before ++ (d ∷ later)) eeprom_chip.blank in
      ap (cell_at (store_page s.page s.first s.count bytes i)) (sym its_place)
      ∙ store_page_at i eeprom_size fit s.page s.first s.count bytes (omega arith) at small its_sent
      ∙ ap stored_cell its_byte
