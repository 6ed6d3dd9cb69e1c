-- The bytes of entries are printed as the entries' lines. Assumes nothing.
use Prim.Native.Nat.{ℕ, ◌+◌, ◌/◌, ◌%◌, ◌<◌}
use native.Mathlib.Omega.{arith}
use native.Mathlib.Nat.{add-zero}
use mathlib.Core.Path.{◌≡◌, refl, sym, ap, subst, ◌∙◌}
use mathlib.Core.List.{List, [], ◌∷◌, ◌++◌}
use lib.Dec.{eqb}
use lib.ListN.{length, get_or, take}
use lib.Seq.{take-append_seam}
use Rattle.law.specs.Words.{pick, All}
use Rattle.page.specs.Geometry.{flash_page}
use Rattle.field.specs.Ends.{lf}
use Rattle.field.specs.Hex.{hex_field}
use Rattle.field.specs.Reads.{Stands}
use Rattle.field.proofs.Reading.{stands_get_d, stands_length, stands_left, stands_right}
use Rattle.fewest.specs.Entries.{Entry, sector_erase, chip_erase, program}
use Rattle.fewest.specs.Fewest.{address, first_place, spelled_entry, spelled_list}
use Rattle.entries.specs.Printed.{hex_bytes, entry_line, entry_lines}
use Rattle.planner.specs.declared.Kind.{Kind}
use Rattle.entries.specs.Lines.{kind_at, page_at, entry_size, head_line, line_at, lines_from, Known, Inside, Kinds}

-- a program has a whole page
abbrev pub Whole : Entry → Type 0
Whole (sector_erase s) = Unit {0}
Whole chip_erase = Unit {0}
Whole (program n bytes) = length bytes ≡ flash_page

-- a line by the kind, the address and the page
unfoldable line_by : ℕ → ℕ → ℕ → ℕ → List ℕ → List ℕ
line_by kind high middle low page = head_line kind high middle low ++ pick (eqb kind 3) (hex_bytes page ++ lf) []

module _ (list : List ℕ) (p : ℕ) where
  line_by_lem : line_at list p ≡ line_by (kind_at list p) (get_or list (p + 1) 0) (get_or list (p + 2) 0) (get_or list (p + 3) 0) (page_at list (p + 4))
  unfolding line_at line_by
  line_by_lem = refl

  kind_is : (k : ℕ) (w : List ℕ) → Stands list p (k ∷ w) → kind_at list p ≡ k
  kind_is k w s = ap (λ (n : ℕ). get_or list n 0) (sym (add-zero p)) ∙ stands_get_d list (k ∷ w) p s 0 (omega arith)

  line_head : (k a : ℕ) (page : List ℕ) → Stands list p (k ∷ address a)
      → line_by (kind_at list p) (get_or list (p + 1) 0) (get_or list (p + 2) 0) (get_or list (p + 3) 0) page ≡ line_by k (a / 65536 % 256) (a / 256 % 256) (a % 256) page
  line_head k a page s =
      let zero = kind_is k (address a) s in
      let first = stands_get_d list (k ∷ address a) p s 1 (omega arith) in
      let second = stands_get_d list (k ∷ address a) p s 2 (omega arith) in
      let third = stands_get_d list (k ∷ address a) p s 3 (omega arith) in
      λ i. line_by (zero i) (first i) (second i) (third i) page

  page_is : (bytes : List ℕ) → length bytes ≡ flash_page → Stands list (p + 4) bytes → page_at list (p + 4) ≡ bytes
  page_is bytes w s =
      ap (take flash_page) s.is ∙ ap (λ (n : ℕ). take n (bytes ++ s.rest)) (sym w) ∙ take-append_seam bytes s.rest

  -- the entry that stands here: its line, and its length
  line_is : (o : Entry) → Whole o → Stands list p (spelled_entry o) → line_at list p ≡ entry_line o
  unfolding line_by head_line hex_bytes hex_field entry_line
  line_is (sector_erase n) w s = line_by_lem ∙ line_head 1 (first_place (sector_erase n)) (page_at list (p + 4)) s
  line_is chip_erase w s = line_by_lem ∙ line_head 2 (first_place chip_erase) (page_at list (p + 4)) s
  line_is (program n bytes) w s =
      let a = first_place (program n bytes) in
      let left = stands_left list (3 ∷ address a) bytes p s in
      line_by_lem
      ∙ line_head 3 a (page_at list (p + 4)) left
      ∙ ap (line_by 3 (a / 65536 % 256) (a / 256 % 256) (a % 256)) (page_is bytes w (stands_right list (3 ∷ address a) bytes p s))

  size_is : (o : Entry) → Whole o → Stands list p (spelled_entry o) → entry_size (kind_at list p) ≡ length (spelled_entry o)
  size_is (sector_erase n) w s = ap entry_size (kind_is 1 _ s)
  size_is chip_erase w s = ap entry_size (kind_is 2 _ s)
  size_is (program n bytes) w s = ap entry_size (kind_is 3 _ s) ∙ omega arith

  known_is : (o : Entry) → Stands list p (spelled_entry o) → Known (kind_at list p)
  known_is (sector_erase n) s = (Kind.SectorErase, sym (kind_is 1 _ s))
  known_is chip_erase s = (Kind.ChipErase, sym (kind_is 2 _ s))
  known_is (program n bytes) s = (Kind.Program, sym (kind_is 3 _ s))

  size_some : (o : Entry) → 0 < length (spelled_entry o)
  size_some (sector_erase n) = omega arith
  size_some chip_erase = omega arith
  size_some (program n bytes) = omega arith

-- the entries that stand from here on
module _ (list : List ℕ) where
  module _ (o : Entry) (os : List Entry) (p : ℕ) (w : Whole o) (s : Stands list p (spelled_list (o ∷ os))) where
    here : Stands list p (spelled_entry o)
    unfolding spelled_list
    here = stands_left list (spelled_entry o) (spelled_list os) p s

    after : Stands list (p + entry_size (kind_at list p)) (spelled_list os)
    unfolding spelled_list
    after =
        subst (λ (n : ℕ). Stands list (p + n) (spelled_list os)) (sym (size_is list p o w here))
        (stands_right list (spelled_entry o) (spelled_list os) p s)

  pub lines_are : (os : List Entry) (p : ℕ) → All Whole os → Stands list p (spelled_list os) → lines_from list (length os) p ≡ entry_lines os
  unfolding lines_from entry_lines All
  lines_are [] p w s = refl
  lines_are (o ∷ os) p w s =
      ap (λ (l : List ℕ). l ++ lines_from list (length os) (p + entry_size (kind_at list p))) (line_is list p o w.0 (here o os p w.0 s))
      ∙ ap (λ (l : List ℕ). entry_line o ++ l) (lines_are os (p + entry_size (kind_at list p)) w.1 (after o os p w.0 s))

  pub inside_are : (os : List Entry) (p : ℕ) → All Whole os → Stands list p (spelled_list os) → Inside list (length os) p
  unfolding Inside All
  inside_are [] p w s = tt
  inside_are (o ∷ os) p w s =
      let h = here o os p w.0 s in (
        omega (arith, size_is list p o w.0 h, stands_length list (spelled_entry o) p h (size_some list p o)),
        inside_are os (p + entry_size (kind_at list p)) w.1 (after o os p w.0 s),
      )

  pub kinds_are : (os : List Entry) (p : ℕ) → All Whole os → Stands list p (spelled_list os) → Kinds list (length os) p
  unfolding Kinds All
  kinds_are [] p w s = tt
  kinds_are (o ∷ os) p w s = (known_is list p o (here o os p w.0 s), kinds_are os (p + entry_size (kind_at list p)) w.1 (after o os p w.0 s))
