-- What a cycle's end makes of the watched sector's image is what the entry makes of the chip's bytes there. Assumes nothing.
use Prim.Native.Nat.{ℕ, suc, ◌+◌, ◌*◌, ◌/◌, ◌%◌, ◌<◌}
use mathlib.Core.Path.{◌≡◌, refl, sym, ap, ◌∙◌}
use mathlib.Core.Bool.{Bool, true, false, not}
use mathlib.Core.List.{List}
use native.Mathlib.Omega.{arith}
use lib.Bits.{bit_and, and_zero_l}
use lib.Dec.{eqb}
use lib.ListN.{get_or}
use borrow.Author.Tests.{eqb-true, eqb-false, eq-eqb, ne_eqb}
use Rattle.law.specs.Words.{pick}
use Rattle.law.specs.Choice.{split}
use Rattle.page.specs.Geometry.{flash_page, flash_sector, flash_sectors, chip_pages}
use Rattle.cell.specs.declared.Cell.{Cell}
use Rattle.cell.specs.Rules.{erased_cell, programmed_cell}
use Rattle.image.specs.Image.{Image, spans, cell_at}
use Rattle.image.specs.Cycles.{erase_all, program_page}
use Rattle.image.proofs.Reading.{page_at_lem, page_off, page_spans, on_spans}
use Rattle.image.proofs.AtPlace.{erase_all_at}
use Rattle.flash.specs.Code.{sector_of, sector_locked, with_enable}
use Rattle.flash.specs.Cycle.{blank}
use Rattle.flash.specs.declared.FlashCycle.{FlashCycle}
use Rattle.flash.specs.declared.FlashCycle.TheVariants as cycle
use Rattle.times.specs.declared.Pages.TheVariants.{None, One, All}
use Rattle.times.specs.Times.{on_pages}
use Rattle.machine.specs.Effects.{flash_after, sector_of_page, in_sector}
use Rattle.fewest.specs.Entries.{Entry, sector_erase, chip_erase, program, starts, byte_after, sure}
use Rattle.refill.proofs.Halves.{whole_of}
use Rattle.refill.proofs.Playing.{locked_enable}

-- the image of sector w, counted from 0, holds the chip's bytes there, without doubt: as `Shows` says of a list
pub record Holds (w : ℕ) (i : Image) (content : ℕ → ℕ) : Type 0 where
  pub fit : spans flash_sector i ≡ true
  pub cells : (q : ℕ) → q < flash_sector → cell_at i q ≡ sure (content (flash_sector * w + q))

-- the cycle of an entry, and its page
abbrev pub cycle_of : Entry → FlashCycle
cycle_of (sector_erase s) = cycle.SectorErase s
cycle_of chip_erase = cycle.ChipErase
cycle_of (program n bytes) = cycle.Program n

abbrev pub page_of_cycle : Entry → List ℕ
page_of_cycle (sector_erase s) = blank
page_of_cycle chip_erase = blank
page_of_cycle (program n bytes) = bytes

erase_spans : (i : Image) → spans flash_sector (erase_all i) ≡ spans flash_sector i
unfolding erase_all
erase_spans i = on_spans (λ k c. erased_cell) i flash_sector

program_spans : (n : ℕ) (bytes : List ℕ) (i : Image) → spans flash_sector (program_page n bytes i) ≡ spans flash_sector i
unfolding program_page
program_spans n bytes i = page_spans flash_page n (λ q c. programmed_cell c (get_or bytes q 0)) i flash_sector

sure_and : (v d : ℕ) → programmed_cell (sure v) d ≡ sure (bit_and v d)
sure_and v d = λ j. record { value = bit_and v d; mask = and_zero_l d j }

turned : (a b : ℕ) → eqb a b ≡ eqb b a
turned a b = split (eqb a b) (λ t. t ∙ sym (eq-eqb b a (sym (eqb-true a b t)))) (λ t. t ∙ sym (ne_eqb b a (λ e. eqb-false a b t (sym e))))

module _ (w s : ℕ) (l : w < flash_sectors) (i : Image) (content : ℕ → ℕ) (held : Holds w i content) where
  sector_here : (q : ℕ) → q < flash_sector → sector_of (flash_sector * w + q) ≡ suc w
  sector_here q h = omega arith

  -- an erase of the whole sector, or not
  module _ (one : ℕ → Image → Image) where
    erased_fit : (t : Bool) → spans flash_sector (on_pages one erase_all (pick t All None) i) ≡ true
    erased_fit true = erase_spans i ∙ held.fit
    erased_fit false = held.fit

    erased : (t : Bool) (q : ℕ) → q < flash_sector → cell_at (on_pages one erase_all (pick t All None) i) q ≡ sure (pick t 255 (content (flash_sector * w + q)))
    erased true q h = erase_all_at i flash_sector held.fit q h
    erased false q h = held.cells q h

  pub by_sector : (t : ℕ) → starts s (sector_erase t) ≡ true
      → Holds w (whole_of (suc w) (cycle.SectorErase t) blank (with_enable s) i) (λ k. byte_after s (sector_erase t) k (content k))
  unfolding flash_after
  by_sector t st = record {
    fit = erased_fit (λ n. program_page n blank) (eqb t (suc w));
    cells = λ q h.
        let v = content (flash_sector * w + q) in
        erased (λ n. program_page n blank) (eqb t (suc w)) q h
        ∙ ap sure
        (ap (λ (b : Bool). pick b 255 v) (turned t (suc w))
        ∙ ap (λ (x : ℕ). pick (eqb x t) 255 v) (sym (sector_here q h))
        ∙ ap (λ (b : Bool). pick b (pick (eqb (sector_of (flash_sector * w + q)) t) 255 v) v) (sym st));
  }

  pub by_chip_lem : starts s chip_erase ≡ true
      → Holds w (whole_of (suc w) cycle.ChipErase blank (with_enable s) i) (λ k. byte_after s chip_erase k (content k))
  unfolding flash_after
  by_chip_lem st = record {
    fit = erased_fit (λ n. program_page n blank) (not (sector_locked (with_enable s) (suc w)));
    cells = λ q h.
        let v = content (flash_sector * w + q) in
        erased (λ n. program_page n blank) (not (sector_locked (with_enable s) (suc w))) q h
        ∙ ap sure
        (ap (λ (b : Bool). pick (not b) 255 v) (locked_enable s (suc w))
        ∙ ap (λ (x : ℕ). pick (not (sector_locked s x)) 255 v) (sym (sector_here q h))
        ∙ ap (λ (b : Bool). pick b (pick (not (sector_locked s (sector_of (flash_sector * w + q)))) 255 v) v) (sym st));
  }

  -- a program of one of the sector's pages, or of another
  programmed : (n : ℕ) (bytes : List ℕ) → Image
  programmed n bytes = on_pages (λ p. program_page p bytes) erase_all (pick (eqb (sector_of_page n) (suc w)) (One (in_sector n)) None) i

  programmed_fit : (n : ℕ) (bytes : List ℕ) → spans flash_sector (programmed n bytes) ≡ true
  unfolding programmed
  programmed_fit n bytes =
      split (eqb (sector_of_page n) (suc w)) (λ t. rw t (program_spans (in_sector n) bytes i ∙ held.fit)) (λ t. rw t held.fit)

  in_there : (n q : ℕ) → n / 128 + 1 ≡ suc w → (flash_sector * w + q) / flash_page ≡ n → q / 256 ≡ n % 128
  in_there n q e x = omega arith

  out_there : (n q : ℕ) → n / 128 + 1 ≡ suc w → q / 256 ≡ n % 128 → (flash_sector * w + q) / flash_page ≡ n
  out_there n q e x = omega arith

  elsewhere : (n q : ℕ) → q < flash_sector → (flash_sector * w + q) / flash_page ≡ n → sector_of_page n ≡ suc w
  elsewhere n q h x = omega arith

  page_cell : (n : ℕ) (bytes : List ℕ) (q : ℕ) → q < flash_sector → n < chip_pages
      → cell_at (programmed n bytes) q
      ≡ sure (pick (eqb ((flash_sector * w + q) / flash_page) n) (bit_and (content (flash_sector * w + q)) (get_or bytes ((flash_sector * w + q) % flash_page) 0)) (content (flash_sector * w + q)))
  unfolding programmed program_page
  page_cell n bytes q h small =
      let k = flash_sector * w + q in
      split (eqb (sector_of_page n) (suc w))
      (λ t.
      let e : n / 128 + 1 ≡ suc w = eqb-true (sector_of_page n) (suc w) t in
      rw t
      (split (eqb (k / flash_page) n)
      (λ u.
      let here : (flash_sector * w + q) / flash_page ≡ n = eqb-true (k / flash_page) n u in
      let same : (flash_sector * w + q) % flash_page ≡ q % 256 = omega arith in
      page_at_lem flash_page (n % 128) (λ q c. programmed_cell c (get_or bytes q 0)) i flash_sector held.fit (omega arith) q h (in_there n q e here)
      ∙ ap (λ (c : Cell). programmed_cell c (get_or bytes (q % 256) 0)) (held.cells q h)
      ∙ sure_and (content k) (get_or bytes (q % 256) 0)
      ∙ ap sure (rw u (ap (λ (x : ℕ). bit_and (content k) (get_or bytes x 0)) (sym same))))
      (λ u.
      let ne = eqb-false (k / flash_page) n u in
      page_off flash_page (n % 128) (λ q c. programmed_cell c (get_or bytes q 0)) i q (λ x. ne (out_there n q e x))
      ∙ held.cells q h
      ∙ ap sure (rw u refl))))
      (λ t.
      let ne = eqb-false (sector_of_page n) (suc w) t in
      rw t
      (held.cells q h
      ∙ ap sure (rw (ne_eqb (k / flash_page) n (λ x. ne (elsewhere n q h x))) refl)))

  pub by_program : (n : ℕ) (bytes : List ℕ) → n < chip_pages → starts s (program n bytes) ≡ true
      → Holds w (whole_of (suc w) (cycle.Program n) bytes (with_enable s) i) (λ k. byte_after s (program n bytes) k (content k))
  unfolding flash_after programmed
  by_program n bytes small st = record {
    fit = programmed_fit n bytes;
    cells = λ q h.
        let k = flash_sector * w + q in
        page_cell n bytes q h small
        ∙ ap sure
        (ap (λ (b : Bool). pick b (pick (eqb (k / flash_page) n) (bit_and (content k) (get_or bytes (k % flash_page) 0)) (content k)) (content k)) (sym st));
  }
