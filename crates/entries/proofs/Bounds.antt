-- No plan's lines take more than there is room for. Assumes nothing.
use Prim.Native.Nat.{ℕ, zero, suc, ◌+◌, ◌*◌, ◌≤◌}
use native.Mathlib.Omega.{arith}
use native.Mathlib.Nat.{mul-suc}
use mathlib.Core.Path.{◌≡◌, refl, sym, ap, subst, ◌∙◌}
use mathlib.Core.Bool.{Bool, true, false}
use mathlib.Core.List.{List, [], ◌∷◌, ◌++◌, append-nil, append_assoc}
use lib.ListN.{length, drop, length-append, length-take}
use Rattle.law.specs.Words.{pick}
use Rattle.page.specs.Geometry.{flash_page, flash_sectors, chip_pages}
use Rattle.field.specs.Hex.{hex_field}
use Rattle.fewest.specs.declared.Test.TheVariants.{Rises}
use Rattle.fewest.specs.Below.{joined_below}
use Rattle.fewest.specs.Entries.{Entry, sector_erase, chip_erase, program}
use Rattle.fewest.specs.Fewest.{spelled_entry, spelled_list, page_of}
use Rattle.fewest.specs.Plan.{in_sector, erase_of, erases, chosen, program_of, programs, plan_by, plan_of, by_chip}
use Rattle.entries.specs.Printed.{hex_bytes, entry_line, entry_lines}
use Rattle.entries.proofs.Digits.{hex_length}

lines_append : (xs ys : List Entry) → entry_lines (xs ++ ys) ≡ entry_lines xs ++ entry_lines ys
unfolding entry_lines
lines_append [] ys = refl
lines_append (o ∷ xs) ys =
    ap (λ (l : List ℕ). entry_line o ++ l) (lines_append xs ys) ∙ sym (append_assoc (entry_line o) (entry_lines xs) (entry_lines ys))

lines_both : (xs ys : List Entry) → length (entry_lines (xs ++ ys)) ≡ length (entry_lines xs) + length (entry_lines ys)
lines_both xs ys = ap length (lines_append xs ys) ∙ length-append (entry_lines xs) (entry_lines ys)

-- one entry, or none
lines_one : (yes : Bool) (o : Entry) (b : ℕ) → length (entry_line o) ≤ b → length (entry_lines (pick yes (o ∷ []) [])) ≤ b
unfolding entry_lines
lines_one true o b h = subst (λ (l : List ℕ). length l ≤ b) (sym (append-nil (entry_line o))) h
lines_one false o b h = omega arith

lines_joined : (b : ℕ) (f : ℕ → List Entry) (n : ℕ) → ((i : ℕ) → length (entry_lines (f i)) ≤ b) → length (entry_lines (joined_below n f)) ≤ b * n
unfolding joined_below entry_lines
lines_joined b f zero h = omega arith
lines_joined b f (suc n) h = omega (arith, lines_both (joined_below n f) (f n), lines_joined b f n h, h n, mul-suc b n)

erase_most : (s : ℕ) → length (entry_line (sector_erase s)) ≤ 20
unfolding entry_line hex_bytes hex_field
erase_most s = omega arith

chip_most : length (entry_line chip_erase) ≤ 20
unfolding entry_line hex_bytes hex_field
chip_most = omega arith

program_most : (n : ℕ) (bytes : List ℕ) → length bytes ≤ flash_page → length (entry_line (program n bytes)) ≤ 2 * flash_page + 16
unfolding entry_line hex_bytes hex_field
program_most n bytes h = omega (arith, length-append (hex_bytes bytes) (10 ∷ []), hex_length bytes)

module _ (status : ℕ) (present wanted : List ℕ) where
  erases_most : (chip : Bool) → length (entry_lines (erases present wanted chip)) ≤ 80
  unfolding erases
  erases_most true = omega (arith, lines_one true chip_erase 20 chip_most)
  erases_most false =
      omega (
        arith,
        lines_joined 20 (erase_of present wanted) flash_sectors (λ s. lines_one (in_sector present wanted Rises s) (sector_erase (suc s)) 20 (erase_most (suc s))),
      )

  page_most : (n : ℕ) → length (page_of wanted n) ≤ flash_page
  page_most n = omega (arith, length-take flash_page (drop (flash_page * n) wanted))

  programs_most : (chip : Bool) → length (entry_lines (programs present wanted status chip)) ≤ (2 * flash_page + 16) * chip_pages
  unfolding programs
  programs_most chip =
      lines_joined (2 * flash_page + 16) (program_of present wanted status chip) chip_pages
      (λ n. lines_one (chosen present wanted status chip n) (program n (page_of wanted n)) (2 * flash_page + 16) (program_most n (page_of wanted n) (page_most n)))

  -- the plan's lines
  pub plan_most : length (entry_lines (plan_of present wanted status)) ≤ (2 * flash_page + 16) * chip_pages + 80
  unfolding plan_of plan_by
  plan_most =
      let chip = by_chip present wanted status in
      omega (arith, lines_both (erases present wanted chip) (programs present wanted status chip), erases_most chip, programs_most chip)

-- ---- how many entries a list of so many bytes has
entry_least : (o : Entry) → 4 ≤ length (spelled_entry o)
entry_least (sector_erase s) = omega arith
entry_least chip_erase = omega arith
entry_least (program n bytes) = omega arith

pub many_most : (os : List Entry) → 4 * length os ≤ length (spelled_list os)
unfolding spelled_list
many_most [] = omega arith
many_most (o ∷ os) = omega (arith, entry_least o, many_most os, length-append (spelled_entry o) (spelled_list os))
