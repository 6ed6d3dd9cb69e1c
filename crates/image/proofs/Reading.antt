-- What stands at a place after a rule on each place, or on one page; and that a rule keeps the lengths. Assumes nothing.
use mathlib.Core.Path.{◌≡◌, sym, ap, subst, ◌∙◌}
use mathlib.Core.Logic.{⊎_elim}
use mathlib.Core.Bool.{true}
use Prim.Native.Nat.{ℕ, ◌+◌, ◌*◌, ◌/◌, ◌%◌, ◌≤◌, ◌<◌}
use native.Mathlib.Nat.{le-div_iff_mul-le}
use native.Mathlib.Omega.{arith}
use borrow.Author.Tests.{eqb-true, eqb-false}
use lib.Dec.{eqb}
use lib.ListN.{length, get_or, get_or-eq_default}
use Rattle.law.specs.Choice.{split, lt_or_le}
use Rattle.law.specs.Places.{by_place_length, by_place_at}
use Rattle.cell.specs.declared.Cell.{Cell}
use Rattle.image.specs.Image.{Image, size_of, spans, cell_at, value_by, mask_by, each_place, on_image, in_page, on_page}
use Rattle.image.proofs.Fitting.{spans_values, spans_masks, spans_fits, on_fit, on_unfit, page_there, page_none}
use Rattle.image.proofs.Pages.{in_page_lem, off_page, page_of_lem, place_of, not_before, not_behind}

-- a byte past the end of an image
abbrev pub no_cell : Cell
no_cell = record { value = 0; mask = 0 }

pub past_end : (i : Image) (k : ℕ) → length i.values ≤ k → length i.masks ≤ k → cell_at i k ≡ no_cell
past_end i k v m =
    λ j. record { value = get_or-eq_default i.values 0 {n = k} v j; mask = get_or-eq_default i.masks 0 {n = k} m j }

module _ (rule : ℕ → Cell → Cell) (i : Image) where
  pub each_spans : (n : ℕ) → spans n (each_place rule i) ≡ spans n i
  unfolding spans each_place
  each_spans n = simp by_place_length

  pub each_at : (k : ℕ) → k < length i.values → k < length i.masks → cell_at (each_place rule i) k ≡ rule k (cell_at i k)
  unfolding each_place
  each_at k v m =
      let x : get_or (each_place rule i).values k 0 ≡ (rule k (cell_at i k)).value = by_place_at (value_by rule i.masks) k i.values v in
      let y : get_or (each_place rule i).masks k 0 ≡ (rule k (cell_at i k)).mask = by_place_at (mask_by rule i.values) k i.masks m in
      λ j. record { value = x j; mask = y j }

  -- an image keeps its length, whether it fits or not
  pub on_spans : (n : ℕ) → spans n (on_image rule i) ≡ spans n i
  on_spans n = split (spans (size_of i) i) (λ t. ap (spans n) (on_fit i rule t) ∙ each_spans n) (λ t. ap (spans n) (on_unfit i rule t))

  pub on_at : (n : ℕ) → spans n i ≡ true → (k : ℕ) → k < n → cell_at (on_image rule i) k ≡ rule k (cell_at i k)
  on_at n t k h =
      let v = spans_values i n t in
      let m = spans_masks i n t in
      ap (λ (w : Image). cell_at w k) (on_fit i rule (spans_fits i n t)) ∙ each_at k (omega arith) (omega arith)

  pub on_past : (n : ℕ) → spans n i ≡ true → (k : ℕ) → n ≤ k → cell_at (on_image rule i) k ≡ no_cell
  on_past n t k h =
      let w = on_spans n ∙ t in
      let v = spans_values (on_image rule i) n w in
      let m = spans_masks (on_image rule i) n w in
      past_end (on_image rule i) k (omega arith) (omega arith)

module _ (size number : ℕ) (rule : ℕ → Cell → Cell) (i : Image) where
  pub page_spans : (n : ℕ) → spans n (on_page size number rule i) ≡ spans n i
  page_spans n =
      ⊎_elim (λ h. ap (spans n) (page_there i size number rule h) ∙ on_spans (in_page size number rule) i n)
      (λ h. ap (spans n) (page_none i size number rule h)) (lt_or_le number (size_of i / size))

  -- in the page
  pub page_at_lem : (n : ℕ) → spans n i ≡ true → number < n / size → (k : ℕ) → k < n → k / size ≡ number
      → cell_at (on_page size number rule i) k ≡ rule (k % size) (cell_at i k)
  page_at_lem n t h k l e =
      ap (λ (w : Image). cell_at w k) (page_there i size number rule (subst (λ (w : ℕ). number < w / size) (sym (spans_values i n t)) h))
      ∙ on_at (in_page size number rule) i n t k l ∙ in_page_lem size number rule k (cell_at i k) e

  -- the same by the place in the page
  pub page_at_place : (n : ℕ) → spans n i ≡ true → number < n / size → (q : ℕ) → q < size
      → cell_at (on_page size number rule i) (size * number + q) ≡ rule q (cell_at i (size * number + q))
  page_at_place n t h q l =
      let m = (le-div_iff_mul-le {x = number + 1} {y = n} (zero_less l)).0 (omega arith) in
      page_at_lem n t h (size * number + q) (omega arith) (page_of_lem size number q l)
      ∙ ap (λ (j : ℕ). rule j (cell_at i (size * number + q))) (place_of size number q l) where
        zero_less : {a b : ℕ} → a < b → 0 < b
        zero_less h = omega arith

  -- a place stays as it was where the rule keeps it
  stays : (k : ℕ) → in_page size number rule k (cell_at i k) ≡ cell_at i k → cell_at (on_page size number rule i) k ≡ cell_at i k
  stays k e =
      ⊎_elim
      (λ h.
      ap (λ (w : Image). cell_at w k) (page_there i size number rule h)
      ∙ split (spans (size_of i) i) there (λ t. ap (λ (w : Image). cell_at w k) (on_unfit i (in_page size number rule) t)))
      (λ h. ap (λ (w : Image). cell_at w k) (page_none i size number rule h)) (lt_or_le number (size_of i / size)) where
        there : spans (size_of i) i ≡ true → cell_at (on_image (in_page size number rule) i) k ≡ cell_at i k
        there t =
            let m = spans_masks i (size_of i) t in
            ⊎_elim (λ l. on_at (in_page size number rule) i (size_of i) t k l ∙ e)
            (λ l. on_past (in_page size number rule) i (size_of i) t k l ∙ sym (past_end i k (omega arith) (omega arith))) (lt_or_le k (size_of i))

  -- nothing outside the page changes: before it, or behind it
  pub page_off : (k : ℕ) → (k / size ≡ number → ⊥) → cell_at (on_page size number rule i) k ≡ cell_at i k
  page_off k n = stays k (off_page size number rule k (cell_at i k) n)

  pub page_before : (k : ℕ) → k < size * number → cell_at (on_page size number rule i) k ≡ cell_at i k
  page_before k h = page_off k (λ e. let l = not_before size number k e in omega arith)

  pub page_behind : (k : ℕ) → 0 < size → size * number + size ≤ k → cell_at (on_page size number rule i) k ≡ cell_at i k
  page_behind k z h = page_off k (λ e. let l = not_behind size number k z e in omega arith)

  -- nor a place of the page whose byte the rule keeps
  pub page_same : (k : ℕ) → rule (k % size) (cell_at i k) ≡ cell_at i k → cell_at (on_page size number rule i) k ≡ cell_at i k
  page_same k e =
      stays k (split (eqb (k / size) number) (λ t. in_page_lem size number rule k (cell_at i k) (eqb-true _ _ t) ∙ e)
      (λ t. off_page size number rule k (cell_at i k) (eqb-false _ _ t)))
