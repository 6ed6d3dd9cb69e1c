-- When an image fits, and that rules leave another alone. Assumes nothing.
use mathlib.Core.Path.{◌≡◌, refl, sym, ◌∙◌}
use mathlib.Core.Bool.{true, false}
use Prim.Native.Nat.{ℕ, ◌/◌, ◌≤◌, ◌<◌}
use lib.Dec.{eqb}
use borrow.Author.Tests.{eq-eqb, ne_eqb, eqb-true, lt-ltb, le-ltb}
use lib.ListN.{length}
use Rattle.law.specs.Choice.{both}
use Rattle.cell.specs.declared.Cell.{Cell}
use Rattle.image.specs.Image.{Image, size_of, spans, each_place, on_image, in_page, on_page}

module _ (i : Image) where
  -- an image of n bytes
  module _ (n : ℕ) where
    pub lengths_span : length i.values ≡ n → length i.masks ≡ n → spans n i ≡ true
    unfolding spans
    lengths_span v m = simp (eq-eqb _ _ v, eq-eqb _ _ m)

    pub spans_values : spans n i ≡ true → length i.values ≡ n
    unfolding spans
    spans_values e = eqb-true _ _ (both (eqb (length i.values) n) (eqb (length i.masks) n) e).0

    pub spans_masks : spans n i ≡ true → length i.masks ≡ n
    unfolding spans
    spans_masks e = eqb-true _ _ (both (eqb (length i.values) n) (eqb (length i.masks) n) e).1

  -- it fits: as many masks as values
  pub lengths_fit : length i.masks ≡ length i.values → spans (size_of i) i ≡ true
  lengths_fit e = lengths_span (size_of i) refl e

  pub lengths_unfit : (length i.masks ≡ length i.values → ⊥) → spans (size_of i) i ≡ false
  unfolding spans
  lengths_unfit n = simp (eq-eqb (size_of i) (size_of i) refl, ne_eqb _ _ n)

  pub spans_fits : (n : ℕ) → spans n i ≡ true → spans (size_of i) i ≡ true
  spans_fits n e = lengths_fit (spans_masks n e ∙ sym (spans_values n e))

  -- what the rules are where the image fits, and where not
  module _ (rule : ℕ → Cell → Cell) where
    pub on_fit : spans (size_of i) i ≡ true → on_image rule i ≡ each_place rule i
    unfolding on_image
    on_fit e = simp e

    pub on_unfit : spans (size_of i) i ≡ false → on_image rule i ≡ i
    unfolding on_image
    on_unfit e = simp e

  module _ (size number : ℕ) (rule : ℕ → Cell → Cell) where
    pub page_there : number < size_of i / size → on_page size number rule i ≡ on_image (in_page size number rule) i
    unfolding on_page
    page_there h = simp (lt-ltb _ _ h)

    pub page_none : size_of i / size ≤ number → on_page size number rule i ≡ i
    unfolding on_page
    page_none h = simp (le-ltb _ _ h)
