-- A rule on one page of an image, and the loop over that page: what it does before, in and behind the page. Assumes nothing.
use mathlib.Core.Path.{◌≡◌, sym, ap, ◌∙◌}
use mathlib.Core.List.{List}
use Prim.Native.Nat.{ℕ, ◌+◌, ◌*◌, ◌/◌, ◌%◌, ◌≤◌, ◌<◌}
use native.Mathlib.Nat.{mod-lt, mod-eq_of_lt, div-eq_of_lt, div-add-mod, mul-add-div, mul-add-mod_self_left}
use native.Mathlib.Omega.{arith}
use borrow.Author.Tests.{eq-eqb, ne_eqb}
use lib.ListN.{length, get_or, set}
use Rattle.law.specs.Places.{done, more}
use Rattle.law.specs.Words.{by_place}
use Rattle.law.specs.Stretch.{skip, stop}
use Rattle.cell.specs.declared.Cell.{Cell}
use Rattle.image.specs.Image.{in_page}

-- a kept byte of a value, or of a mask, at place k
abbrev pub of_value : List ℕ → ℕ → ℕ → Cell
of_value masks k v = record { value = v; mask = get_or masks k 0 }

abbrev pub of_mask : List ℕ → ℕ → ℕ → Cell
of_mask values k m = record { value = get_or values k 0; mask = m }

module _ (size number : ℕ) where
  -- place q of the page
  pub page_of_lem : (q : ℕ) → q < size → (size * number + q) / size ≡ number
  page_of_lem q h = mul-add-div (omega arith) number q ∙ ap (λ (n : ℕ). number + n) (div-eq_of_lt h) ∙ omega arith

  pub place_of : (q : ℕ) → q < size → (size * number + q) % size ≡ q
  place_of q h = mul-add-mod_self_left size number q ∙ mod-eq_of_lt h

  -- a place of the page is not before it, nor behind it
  pub not_before : (k : ℕ) → k / size ≡ number → size * number ≤ k
  not_before k e =
      let w : size * (k / size) ≡ size * number = ap (λ (n : ℕ). size * n) e in
      omega (arith, div-add-mod k size)

  pub not_behind : (k : ℕ) → 0 < size → k / size ≡ number → k < size * number + size
  not_behind k z e =
      let w : size * (k / size) ≡ size * number = ap (λ (n : ℕ). size * n) e in
      let l : k % size < size = mod-lt k z in
      omega (arith, div-add-mod k size)

  module _ (rule : ℕ → Cell → Cell) where
    pub in_page_lem : (k : ℕ) (c : Cell) → k / size ≡ number → in_page size number rule k c ≡ rule (k % size) c
    in_page_lem k c e = simp (eq-eqb _ _ e)

    pub off_page : (k : ℕ) (c : Cell) → (k / size ≡ number → ⊥) → in_page size number rule k c ≡ c
    off_page k c n = simp (ne_eqb _ _ n)

    pub at_place : (q : ℕ) (c : Cell) → q < size → in_page size number rule (size * number + q) c ≡ rule q c
    at_place q c h = in_page_lem (size * number + q) c (page_of_lem q h) ∙ ap (λ (j : ℕ). rule j c) (place_of q h)

    -- one list of the two: `of` makes a kept byte of an element, `back` takes the element out
    module _ (of : ℕ → ℕ → Cell) (back : Cell → ℕ) (same : (k x : ℕ) → back (of k x) ≡ x) where
      -- no turn yet: all before the page is done
      pub begun : (xs : List ℕ) → xs ≡ done (λ k x. back (in_page size number rule k (of k x))) (size * number + 0) xs
      begun xs =
          sym (skip (λ k x. back (in_page size number rule k (of k x))) (size * number + 0) xs
          (λ k x h. ap back (off_page k (of k x) (λ e. let l = not_before k e in omega arith)) ∙ same k x))

      -- the turn at place q
      pub turned : (xs ys : List ℕ) (q : ℕ) (r : Cell) → q < size → size * number + q < length xs
          → ys ≡ done (λ k x. back (in_page size number rule k (of k x))) (size * number + q) xs
          → r ≡ rule q (of (size * number + q) (get_or xs (size * number + q) 0))
          → set ys (size * number + q) (back r) ≡ done (λ k x. back (in_page size number rule k (of k x))) (size * number + (q + 1)) xs
      turned xs ys q r h l p e =
          let n : size * number + q + 1 ≡ size * number + (q + 1) = omega arith in
          more (λ k x. back (in_page size number rule k (of k x))) (size * number + q) (back r) xs ys l p
          (ap back (e ∙ sym (at_place q (of (size * number + q) (get_or xs (size * number + q) 0)) h)))
          ∙ ap (λ (j : ℕ). done (λ k x. back (in_page size number rule k (of k x))) j xs) n

      -- after the last turn all is done
      pub ended : (xs : List ℕ) (q : ℕ) → 0 < size → size ≤ q → q ≤ size
          → done (λ k x. back (in_page size number rule k (of k x))) (size * number + q) xs
          ≡ by_place (λ k x. back (in_page size number rule k (of k x))) 0 xs
      ended xs q z h l =
          stop (λ k x. back (in_page size number rule k (of k x))) (size * number + q) xs
          (λ k x g. ap back (off_page k (of k x) (λ e. let s = not_behind k z e in omega arith)) ∙ same k x)
