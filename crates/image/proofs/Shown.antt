-- The page view: it stays inside its image, and only the refusal is empty. Assumes nothing.
use mathlib.Core.Path.{◌≡◌, refl, sym, ap, ◌∙◌}
use mathlib.Core.Bool.{true, false}
use mathlib.Core.List.{List, []}
use Prim.Native.Nat.{ℕ, ◌+◌, ◌*◌, ◌/◌, ◌≤◌, ◌<◌}
use native.Mathlib.Omega.{arith}
use lib.Dec.{eqb, ltb}
use borrow.Author.Tests.{eqb-true, ltb-true}
use lib.ListN.{length, take, drop, length-take, length-drop}
use Rattle.law.specs.Choice.{split, both}
use Rattle.record.specs.declared.Chip.{Chip}
use Rattle.record.specs.declared.Chip.TheVariants.{Flash, Eeprom}
use Rattle.image.specs.Images.{per_chip, every_chip, kept_bytes, page_size}
use Rattle.image.proofs.Each.{chip_by_chip}
use denote.Ref.{Bor}
use Rattle.image.specs.View.{can_show, view_place, view_length, page_shown, Shows}

-- what is known where a page can be shown
pub record CanShow (long : Chip → ℕ) (chip : Chip) (number : ℕ) : Type 0 where
  pub whole : (which : Chip) → long which ≡ kept_bytes which
  pub there : number < kept_bytes chip / page_size chip

-- a page of the chip lies within the kept bytes
pub page_within : (chip : Chip) (number : ℕ) → number < kept_bytes chip / page_size chip → page_size chip * number + page_size chip ≤ kept_bytes chip
page_within Flash number h = omega arith
page_within Eeprom number h = omega arith

-- document 01 gives the last page's number
pub last_is : (chip : Chip) → kept_bytes chip / page_size chip ≡ per_chip 127 511 chip + 1
last_is Flash = refl
last_is Eeprom = refl

-- no page is empty
pub some_page : (chip : Chip) → 0 < page_size chip
some_page Flash = omega arith
some_page Eeprom = omega arith

-- no chip keeps more than this
pub kept_most : (chip : Chip) → kept_bytes chip ≤ 65536
kept_most Flash = omega arith
kept_most Eeprom = omega arith

module _ (long : Chip → ℕ) (chip : Chip) (number : ℕ) where
  pub can_show_lem : can_show long chip number ≡ true → CanShow long chip number
  can_show_lem e =
      let a = both (every_chip (λ c. eqb (long c) (kept_bytes c))) (ltb number (kept_bytes chip / page_size chip)) e in
      record { whole = λ c. eqb-true (long c) (kept_bytes c) (chip_by_chip (λ w. eqb (long w) (kept_bytes w)) a.0 c); there = ltb-true _ _ a.1 }

  -- the part lies within the image asked for
  pub view_within : (n : ℕ) → (can_show long chip number ≡ true → n ≡ kept_bytes chip) → view_place long chip number + view_length long chip number ≤ n
  unfolding view_place view_length
  view_within n whole =
      split (can_show long chip number)
      (λ t. let e = whole t in let l = page_within chip number (can_show_lem t).there in simp t (omega arith))
      (λ t. simp t (omega arith))

module _ (bytes : Chip → List ℕ) (chip : Chip) (number : ℕ) where
  -- the images' lengths
  abbrev long : Chip → ℕ
  long c = length (bytes c)

  pub asked_within : view_place long chip number + view_length long chip number ≤ length (bytes chip)
  asked_within = view_within long chip number (length (bytes chip)) (λ t. (can_show_lem long chip number t).whole chip)

  -- the part by its place and its length
  pub view_is : page_shown bytes chip number ≡ take (view_length long chip number) (drop (view_place long chip number) (bytes chip))
  unfolding page_shown view_place view_length
  view_is = split (can_show long chip number) (λ t. simp t) (λ t. simp t)

  pub shown_length : length (page_shown bytes chip number) ≡ view_length long chip number
  shown_length =
      let l = asked_within in
      rw view_is (simp (length-take, length-drop) (omega arith))

  -- the answer is empty exactly on refusal 11
  pub refused_empty : can_show long chip number ≡ false → page_shown bytes chip number ≡ []
  unfolding page_shown
  refused_empty t = simp t

  pub empty_refused : page_shown bytes chip number ≡ [] → can_show long chip number ≡ false
  unfolding view_length
  empty_refused e =
      split (can_show long chip number)
      (λ t.
      let z : 0 ≡ view_length long chip number = sym (ap length e) ∙ shown_length in
      let s : 0 ≡ page_size chip = z ∙ simp t in
      let p = some_page chip in
      absurd (omega arith))
      (λ t. t)

-- any two parts that the promise of `view` admits lie at one place and have the same bytes
pub shows_one : (images : Chip → Bor (List ℕ)) (chip : Chip) (number : ℕ) (p q : Bor (List ℕ)) → Shows images chip number p → Shows images chip number q → (p.ref_ptr ≡ q.ref_ptr) × (p.now ≡ q.now)
shows_one images chip number p q s t = (s.lies ∙ sym t.lies, s.bytes ∙ sym t.bytes)
