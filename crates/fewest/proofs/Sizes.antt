-- How many bytes a list of entries takes, and that no plan takes more than there is room for. Assumes nothing.
use mathlib.Core.Path.{◌≡◌, refl, sym, ap, ap₂, ◌∙◌}
use mathlib.Core.Bool.{Bool, true, false}
use mathlib.Core.List.{List, [], ◌∷◌, ◌++◌, append-nil, append_assoc}
use Prim.Native.Nat.{ℕ, zero, suc, ◌+◌, ◌-◌, ◌*◌, ◌≤◌, ◌<◌}
use native.Mathlib.Nat.{mul-add, mul-zero}
use native.Mathlib.Omega.{arith}
use lib.ListN.{length, get_or, drop, length-append, length-drop}
use lib.Seq.{length-take-le}
use Rattle.law.specs.Words.{pick}
use Rattle.law.specs.Choice.{split}
use Rattle.page.specs.Geometry.{flash_page, flash_sectors, flash_size, sector_pages, chip_pages}
use Rattle.flash.specs.Code.{sector_locked}
use Rattle.fewest.specs.declared.Test.{Test}
use Rattle.fewest.specs.declared.Test.TheVariants.{Rises, Unblank}
use Rattle.fewest.specs.Below.{joined_below, sum_below, count_below}
use Rattle.fewest.specs.Entries.{Entry, sector_erase, chip_erase, program}
use Rattle.fewest.specs.Fewest.{spelled_entry, spelled_list, page_of, most_room}
use Rattle.fewest.specs.Plan.{in_page, in_sector, pages_of, erase_of, erases, chosen, program_of, programs, plan_by, plan_of, by_chip, erases_in, programs_in, test_in, differs_locked}
use Rattle.fewest.proofs.Costs.{cost_by_chip, unlocked_cost}
use Rattle.fewest.proofs.Attains.{length_erases, length_programs, length_plan}
use Rattle.fewest.proofs.Theorems.{number_chip, number_sectors, pays_not}

-- ---- bytes of a list

pub spelled_append : (xs ys : List Entry) → spelled_list (xs ++ ys) ≡ spelled_list xs ++ spelled_list ys
unfolding spelled_list
spelled_append [] ys = refl
spelled_append (o ∷ xs) ys = ap (λ (l : List ℕ). spelled_entry o ++ l) (spelled_append xs ys) ∙ sym (append_assoc (spelled_entry o) (spelled_list xs) (spelled_list ys))

pub length_spelled_append : (xs ys : List Entry) → length (spelled_list (xs ++ ys)) ≡ length (spelled_list xs) + length (spelled_list ys)
length_spelled_append xs ys = ap (λ (l : List ℕ). length l) (spelled_append xs ys) ∙ length-append (spelled_list xs) (spelled_list ys)

-- one entry, or none
pub spelled_one : (o : Entry) → spelled_list (o ∷ []) ≡ spelled_entry o
unfolding spelled_list
spelled_one o = append-nil (spelled_entry o)

pub spelled_none : spelled_list [] ≡ []
unfolding spelled_list
spelled_none = refl

pub length_one : (c : Bool) (o : Entry) → length (spelled_list (pick c (o ∷ []) [])) ≡ length (spelled_entry o) * length (pick c (o ∷ []) [])
unfolding spelled_list
length_one true o = ap (λ (l : List ℕ). length l) (append-nil (spelled_entry o)) ∙ omega arith
length_one false o = sym (mul-zero (length (spelled_entry o)))

-- ---- pages

pub length_page : (wanted : List ℕ) (n : ℕ) → length wanted ≡ flash_size → n < 512 → length (page_of wanted n) ≡ 256
length_page wanted n e l =
    let d : length (drop (flash_page * n) wanted) ≡ length wanted - flash_page * n = length-drop (flash_page * n) wanted in
    length-take-le 256 (drop (flash_page * n) wanted) (omega arith)

pub length_program : (wanted : List ℕ) (n : ℕ) → length wanted ≡ flash_size → n < 512 → length (spelled_entry (program n (page_of wanted n))) ≡ 260
length_program wanted n e l = omega (arith, length_page wanted n e l)

-- ---- how many bytes the plan takes

module _ (a : ℕ) (f : ℕ → List Entry) where
  size_joined : (n : ℕ) → ((i : ℕ) → i < n → length (spelled_list (f i)) ≡ a * length (f i)) → length (spelled_list (joined_below n f)) ≡ a * length (joined_below n f)
  unfolding joined_below spelled_list
  size_joined zero h = sym (mul-zero a)
  size_joined (suc n) h =
      length_spelled_append (joined_below n f) (f n)
      ∙ ap₂ (λ (x y : ℕ). x + y) (size_joined n (λ i l. h i (omega arith))) (h n (omega arith))
      ∙ sym (mul-add a (length (joined_below n f)) (length (f n)))
      ∙ ap (λ (x : ℕ). a * x) (sym (length-append (joined_below n f) (f n)))

module _ (present wanted : List ℕ) where
  pub size_erases : (chip : Bool) → length (spelled_list (erases present wanted chip)) ≡ 4 * length (erases present wanted chip)
  unfolding erases
  size_erases true = ap (λ (l : List ℕ). length l) (spelled_one chip_erase)
  size_erases false =
      size_joined 4 (erase_of present wanted) 4 (λ s l. length_one (in_sector present wanted Rises s) (sector_erase (suc s)))

  pub size_programs : (status : ℕ) (chip : Bool) → length wanted ≡ flash_size → length (spelled_list (programs present wanted status chip)) ≡ 260 * length (programs present wanted status chip)
  unfolding programs
  size_programs status chip w =
      size_joined 260 (program_of present wanted status chip) 512
      (λ n l. length_one (chosen present wanted status chip n) (program n (page_of wanted n)) ∙ ap (λ (x : ℕ). x * length (program_of present wanted status chip n)) (length_program wanted n w l))

  pub size_plan : (status : ℕ) (chip : Bool) → length wanted ≡ flash_size
      → length (spelled_list (plan_by present wanted status chip)) ≡ 4 * erases_in present wanted chip + 260 * programs_in present wanted status chip
  unfolding plan_by
  size_plan status chip w =
      length_spelled_append (erases present wanted chip) (programs present wanted status chip)
      ∙ ap₂ (λ (x y : ℕ). x + y)
      (size_erases chip ∙ ap (λ (k : ℕ). 4 * k) (length_erases status present wanted chip))
      (size_programs status chip w ∙ ap (λ (k : ℕ). 260 * k) (length_programs status present wanted chip))

-- ---- the most that a plan takes

count_most : (n : ℕ) (f : ℕ → Bool) → count_below n f ≤ n
unfolding sum_below
count_most zero f = omega arith
count_most (suc n) f = split (f n) (λ t. rw t (omega (arith, count_most n f))) (λ t. rw t (omega (arith, count_most n f)))

module _ (status : ℕ) (present wanted : List ℕ) where
  pages_most : (t : Test) (s : ℕ) → pages_of present wanted t s ≤ sector_pages
  pages_most t s = count_most sector_pages (λ j. in_page present wanted t (sector_pages * s + j))

  sum_most : (f : ℕ → ℕ) → ((s : ℕ) → f s ≤ sector_pages) → sum_below flash_sectors f ≤ chip_pages
  unfolding sum_below
  sum_most f h = omega (arith, h 0, h 1, h 2, h 3)

  programs_most : (chip : Bool) → programs_in present wanted status chip ≤ chip_pages
  unfolding programs_in
  programs_most chip = sum_most (λ s. pages_of present wanted (test_in present wanted status chip s) s) (λ s. pages_most (test_in present wanted status chip s) s)

  chip_most : cost_by_chip present wanted status ≤ chip_pages + 1
  unfolding cost_by_chip
  chip_most =
      omega (
        arith,
        sum_most (unlocked_cost present wanted status)
            (λ s. split (sector_locked status (suc s)) (λ t. rw t (omega arith)) (λ t. rw t (pages_most Unblank s))),
      )

  module _ (presentBytes : (k : ℕ) → get_or present k 0 < 256) (wantedBytes : (k : ℕ) → get_or wanted k 0 < 256)
      (allowed : differs_locked present wanted status ≡ false) (long : length wanted ≡ flash_size) where
    number_most : (chip : Bool) → by_chip present wanted status ≡ chip → length (plan_by present wanted status chip) ≤ chip_pages + 1
    number_most true e = omega (arith, number_chip status present wanted presentBytes wantedBytes allowed, chip_most)
    number_most false e =
        omega (
          arith,
          number_sectors status present wanted presentBytes wantedBytes allowed,
          pays_not status present wanted presentBytes wantedBytes allowed e,
          chip_most,
        )

    pub plan_most : length (plan_of present wanted status) ≤ chip_pages + 1
    unfolding plan_of
    plan_most = number_most (by_chip present wanted status) refl

    pub plan_room : length (spelled_list (plan_of present wanted status)) ≤ most_room
    unfolding plan_of
    plan_room =
        let chip = by_chip present wanted status in
        omega (
          arith,
          size_plan present wanted status chip long,
          length_plan status present wanted chip,
          programs_most chip,
          number_most chip refl,
        )
