-- The plan yields the wanted content, each of its entries is a cycle, and its length is its cost.
use mathlib.Core.Path.{◌≡◌, refl, sym, ap, ap₂, ◌∙◌}
use mathlib.Core.Bool.{Bool, true, false, not}
use mathlib.Core.List.{List, [], ◌∷◌, ◌++◌}
use Prim.Native.Nat.{ℕ, zero, suc, ◌+◌, ◌*◌, ◌/◌, ◌%◌, ◌≤◌, ◌<◌}
use native.Mathlib.Omega.{arith}
use lib.Bits.{bit_and, and_self, and_comm}
use lib.ListN.{length, get_or, drop, length-append}
use lib.Seq.{get_or-take, get_or-drop}
use borrow.Author.Tests.{eq-eqb, ne_eqb}
use Rattle.law.specs.Words.{pick}
use Rattle.law.specs.Choice.{split, true_not_false}
use Rattle.flash.specs.Code.{sector_of, sector_locked}
use Rattle.page.specs.Geometry.{flash_page, flash_sector, flash_size, flash_sectors, sector_pages, chip_pages}
use Rattle.fewest.specs.declared.Test.TheVariants.{Differs, Rises, Unblank}
use Rattle.fewest.specs.Below.{count_below, one, joined_below, any_false, sum_same, sum_zero, sum_blocks, length_joined}
use Rattle.fewest.specs.Entries.{Entry, sector_erase, chip_erase, program, starts, byte_after, byte_after_all, Yields, cycles}
use Rattle.fewest.specs.Fewest.{page_of}
use Rattle.fewest.specs.Plan.{in_page, in_sector, pages_of, erases_in, test_in, chosen, programs_in, erase_of, erases, program_of, programs, plan_by, differs_locked}
use Rattle.fewest.proofs.Traces.{after_append, joined_one}
use Rattle.fewest.proofs.Costs.{sector_cost, cost_by_sectors}
use Rattle.fewest.proofs.Facts.{and_ff, some_in, none_in, differs, same, rises, rises_not, blank, all_locked}

pick_same : (t : Bool) (v : ℕ) → pick t v v ≡ v
pick_same true v = refl
pick_same false v = refl

module _ (status : ℕ) where
  -- a list of one entry, or none
  after_one : (c : Bool) (o : Entry) (k v : ℕ) → byte_after_all status (pick c (o ∷ []) []) k v ≡ pick c (byte_after status o k v) v
  unfolding byte_after_all
  after_one true o k v = refl
  after_one false o k v = refl

  cycles_one : (c : Bool) (o : Entry) → (c ≡ true → starts status o ≡ true) → cycles status (pick c (o ∷ []) []) ≡ length (pick c (o ∷ []) [])
  unfolding cycles
  cycles_one true o h = rw (h refl) refl
  cycles_one false o h = refl

  cycles_append : (xs ys : List Entry) → cycles status (xs ++ ys) ≡ cycles status xs + cycles status ys
  unfolding cycles
  cycles_append [] ys = omega arith
  cycles_append (o ∷ xs) ys = omega (arith, cycles_append xs ys)

  cycles_joined : (n : ℕ) (f : ℕ → List Entry) → ((i : ℕ) → i < n → cycles status (f i) ≡ length (f i)) → cycles status (joined_below n f) ≡ length (joined_below n f)
  unfolding joined_below cycles
  cycles_joined zero f h = refl
  cycles_joined (suc n) f h =
      omega (arith, cycles_append (joined_below n f) (f n), length-append (joined_below n f) (f n), cycles_joined n f (λ i l. h i (omega arith)), h n (omega arith))

length_one : (c : Bool) (o : Entry) → length (pick c (o ∷ []) []) ≡ one c
length_one true o = refl
length_one false o = refl

-- the wanted byte of a place stands in its page
page_byte : (wanted : List ℕ) (k : ℕ) → get_or (page_of wanted (k / flash_page)) (k % flash_page) 0 ≡ get_or wanted k 0
page_byte wanted k =
    get_or-take flash_page (drop (flash_page * (k / flash_page)) wanted) (k % flash_page) 0 (omega arith)
    ∙ get_or-drop (flash_page * (k / flash_page)) wanted (k % flash_page) 0
    ∙ ap (λ (i : ℕ). get_or wanted i 0) (omega arith)

pub in_sector_lem : (s j : ℕ) → j < sector_pages → (sector_pages * s + j) / sector_pages ≡ s
in_sector_lem s j l = omega arith

first_of_page : (n : ℕ) → n < chip_pages → sector_of (flash_page * n) ≡ suc (n / sector_pages)
first_of_page n l = omega arith

module _ (status : ℕ) (present wanted : List ℕ) (bytes : (k : ℕ) → get_or wanted k 0 < 256)
    (allowed : differs_locked present wanted status ≡ false) where
  -- a byte in a locked sector does not differ
  same_locked : (s k : ℕ) → s < flash_sectors → flash_sector * s ≤ k → k < flash_sector * s + flash_sector → sector_locked status (suc s) ≡ true
      → get_or present k 0 ≡ get_or wanted k 0
  unfolding differs_locked
  same_locked s k l a b t =
      let none = any_false flash_sectors (λ s. pick (sector_locked status (suc s)) (in_sector present wanted Differs s) false) allowed s l in
      same present wanted k (none_in present wanted Differs (flash_sector * s) flash_sector k (rw t at none) a b)

  pub rises_unlocked : (s : ℕ) → s < flash_sectors → in_sector present wanted Rises s ≡ true → sector_locked status (suc s) ≡ false
  rises_unlocked s l u =
      split (sector_locked status (suc s))
      (λ t.
      let r = some_in present wanted Rises (flash_sector * s) flash_sector u in
      let e = same_locked s r.0 l r.1 r.2 t in
      absurd (rises present wanted r.0 r.3 (ap (λ (x : ℕ). bit_and x (get_or wanted r.0 0)) e ∙ and_self (get_or wanted r.0 0))))
      (λ t. t)

  pub differs_unlocked : (n : ℕ) → n < chip_pages → in_page present wanted Differs n ≡ true → sector_locked status (suc (n / sector_pages)) ≡ false
  differs_unlocked n l u =
      split (sector_locked status (suc (n / sector_pages)))
      (λ t.
      let r = some_in present wanted Differs (flash_page * n) flash_page u in
      absurd (differs present wanted r.0 r.3
      (same_locked (n / sector_pages) r.0 (omega arith) (omega (arith, r.1, r.2)) (omega (arith, r.1, r.2)) t)))
      (λ t. t)

  -- a page that is programmed stands in an unlocked sector
  chosen_unlocked : (chip : Bool) (n : ℕ) → n < chip_pages → chosen present wanted status chip n ≡ true → sector_locked status (suc (n / sector_pages)) ≡ false
  chosen_unlocked true n l e = split (sector_locked status (suc (n / sector_pages))) (λ t. differs_unlocked n l (rw t at e)) (λ t. t)
  chosen_unlocked false n l e =
      split (in_sector present wanted Rises (n / sector_pages)) (λ t. rises_unlocked (n / sector_pages) (omega arith) t)
      (λ t. differs_unlocked n l (rw t at e))

  program_starts : (chip : Bool) (n : ℕ) → n < chip_pages → chosen present wanted status chip n ≡ true → starts status (program n (page_of wanted n)) ≡ true
  program_starts chip n l e = rw (first_of_page n l, chosen_unlocked chip n l e) refl

  -- ---- the byte at a place after the programs, and after the erases

  after_programs : (chip : Bool) (k x : ℕ) → k < flash_size
      → byte_after_all status (programs present wanted status chip) k x ≡ pick (chosen present wanted status chip (k / flash_page)) (bit_and x (get_or wanted k 0)) x
  unfolding programs
  after_programs chip k x l =
      joined_one status chip_pages (k / flash_page) k x (program_of present wanted status chip) others (omega arith)
      ∙ after_one status (chosen present wanted status chip (k / flash_page)) (program (k / flash_page) (page_of wanted (k / flash_page))) k x
      ∙ split (chosen present wanted status chip (k / flash_page))
      (λ t. rw t
      (rw (program_starts chip (k / flash_page) (omega arith) t, eq-eqb (k / flash_page) (k / flash_page) refl, page_byte wanted k) refl))
      (λ t. rw t refl)
    where
      others : (i y : ℕ) → (i ≡ k / flash_page → ⊥) → byte_after_all status (program_of present wanted status chip i) k y ≡ y
      others i y ne =
          after_one status (chosen present wanted status chip i) (program i (page_of wanted i)) k y
          ∙ rw (ne_eqb (k / flash_page) i (λ e. ne (sym e)), pick_same) (pick_same (chosen present wanted status chip i) y)

  after_erases : (k v : ℕ) → k < flash_size
      → byte_after_all status (erases present wanted false) k v ≡ pick (in_sector present wanted Rises (k / flash_sector)) 255 v
  unfolding erases
  after_erases k v l =
      joined_one status flash_sectors (k / flash_sector) k v (erase_of present wanted) others (omega arith)
      ∙ after_one status (in_sector present wanted Rises (k / flash_sector)) (sector_erase (suc (k / flash_sector))) k v
      ∙ split (in_sector present wanted Rises (k / flash_sector))
      (λ t. rw t
      (rw (rises_unlocked (k / flash_sector) (omega arith) t, eq-eqb (sector_of k) (suc (k / flash_sector)) (omega arith)) refl))
      (λ t. rw t refl)
    where
      others : (i y : ℕ) → (i ≡ k / flash_sector → ⊥) → byte_after_all status (erase_of present wanted i) k y ≡ y
      others i y ne =
          after_one status (in_sector present wanted Rises i) (sector_erase (suc i)) k y
          ∙ rw (ne_eqb (sector_of k) (suc i) (λ e. ne (omega arith)), pick_same) (pick_same (in_sector present wanted Rises i) y)

  -- ---- the plan yields the wanted content

  blank_programmed : (k : ℕ) (c : Bool) → in_page present wanted Unblank (k / flash_page) ≡ c → pick c (bit_and 255 (get_or wanted k 0)) 255 ≡ get_or wanted k 0
  blank_programmed k true e = and_comm 255 (get_or wanted k 0) ∙ and_ff (get_or wanted k 0) (bytes k)
  blank_programmed k false e =
      sym (blank present wanted k (none_in present wanted Unblank (flash_page * (k / flash_page)) flash_page k e (omega arith) (omega arith)))

  kept_programmed : (k : ℕ) (c : Bool) → in_sector present wanted Rises (k / flash_sector) ≡ false → in_page present wanted Differs (k / flash_page) ≡ c
      → pick c (bit_and (get_or present k 0) (get_or wanted k 0)) (get_or present k 0) ≡ get_or wanted k 0
  kept_programmed k true r e =
      rises_not present wanted k (none_in present wanted Rises (flash_sector * (k / flash_sector)) flash_sector k r (omega arith) (omega arith))
  kept_programmed k false r e =
      same present wanted k (none_in present wanted Differs (flash_page * (k / flash_page)) flash_page k e (omega arith) (omega arith))

  pub yields_sectors : Yields status present wanted (plan_by present wanted status false)
  unfolding Yields plan_by
  yields_sectors k l =
      let v = get_or present k 0 in
      let w = get_or wanted k 0 in
      let s = k / flash_sector in
      let sector : k / flash_page / sector_pages ≡ k / flash_sector = omega arith in
      after_append status (erases present wanted false) (programs present wanted status false) k v
      ∙ ap (byte_after_all status (programs present wanted status false) k) (after_erases k v l)
      ∙ after_programs false k (pick (in_sector present wanted Rises s) 255 v) l
      ∙ ap (λ (i : ℕ). pick (in_page present wanted (test_in present wanted status false i) (k / flash_page))
      (bit_and (pick (in_sector present wanted Rises s) 255 v) w) (pick (in_sector present wanted Rises s) 255 v)) sector
      ∙ split (in_sector present wanted Rises s)
      (λ t. rw t (blank_programmed k (in_page present wanted Unblank (k / flash_page)) refl))
      (λ t. rw t (kept_programmed k (in_page present wanted Differs (k / flash_page)) t refl))

  pub yields_chip : sector_locked status 1 ≡ false → Yields status present wanted (plan_by present wanted status true)
  unfolding Yields plan_by erases byte_after_all
  yields_chip free k l =
      let v = get_or present k 0 in
      let w = get_or wanted k 0 in
      let s = k / flash_sector in
      let here : sector_of k ≡ suc s = omega arith in
      let sector : suc (k / flash_page / sector_pages) ≡ suc s = omega arith in
      let x = pick (sector_locked status (suc s)) v 255 in
      let erased : byte_after status chip_erase k v ≡ x = rw (free, here) (flip (sector_locked status (suc s)) 255 v) in
      ap (byte_after_all status (programs present wanted status true) k) erased
      ∙ after_programs true k x l
      ∙ ap (λ (i : ℕ). pick (in_page present wanted (pick (not (sector_locked status i)) Unblank Differs) (k / flash_page)) (bit_and x w) x) sector
      ∙ split (sector_locked status (suc s))
      (λ t. rw t (kept (in_page present wanted Differs (k / flash_page)) v w (same_locked s k (omega arith) (omega arith) (omega arith) t)))
      (λ t. rw t (blank_programmed k (in_page present wanted Unblank (k / flash_page)) refl))
    where
      flip : (t : Bool) (a b : ℕ) → pick (not t) a b ≡ pick t b a
      flip true a b = refl
      flip false a b = refl

      kept : (c : Bool) (v w : ℕ) → v ≡ w → pick c (bit_and v w) v ≡ w
      kept true v w e = ap (λ (x : ℕ). bit_and x w) e ∙ and_self w
      kept false v w e = e

  -- ---- each entry is a cycle

  programs_start : (chip : Bool) → cycles status (programs present wanted status chip) ≡ length (programs present wanted status chip)
  unfolding programs
  programs_start chip =
      cycles_joined status chip_pages (program_of present wanted status chip)
      (λ n l. cycles_one status (chosen present wanted status chip n) (program n (page_of wanted n)) (program_starts chip n l))

  pub sectors_start : cycles status (plan_by present wanted status false) ≡ length (plan_by present wanted status false)
  unfolding plan_by erases
  sectors_start =
      omega (
        arith,
        cycles_append status (joined_below flash_sectors (erase_of present wanted)) (programs present wanted status false),
        length-append (joined_below flash_sectors (erase_of present wanted)) (programs present wanted status false),
        programs_start false,
        cycles_joined status flash_sectors (erase_of present wanted)
            (λ s l. cycles_one status (in_sector present wanted Rises s) (sector_erase (suc s)) (λ t. rw (rises_unlocked s l t) refl)),
      )

  pub chip_starts : sector_locked status 1 ≡ false → cycles status (plan_by present wanted status true) ≡ length (plan_by present wanted status true)
  unfolding plan_by erases cycles
  chip_starts free = rw free (omega (arith, programs_start true))

  -- in a locked sector no page differs
  pub none_locked : (s : ℕ) → s < flash_sectors → sector_locked status (suc s) ≡ true → pages_of present wanted Differs s ≡ 0
  none_locked s l t =
      sum_zero sector_pages (λ j. one (in_page present wanted Differs (sector_pages * s + j)))
      (λ j b. split (in_page present wanted Differs (sector_pages * s + j))
      (λ u. absurd (true_not_false (sym (ap (λ (i : ℕ). sector_locked status (suc i)) (in_sector_lem s j b) ∙ t) ∙ differs_unlocked (sector_pages * s + j) (omega arith) u)))
      (λ u. rw u refl))

  -- with all sectors locked nothing differs, and the plan without a chip erase is empty
  pub all_locked_nothing : sector_locked status 1 ≡ true → cost_by_sectors present wanted ≡ 0
  unfolding cost_by_sectors
  all_locked_nothing t =
      sum_zero flash_sectors (sector_cost present wanted)
      (λ s l.
      let r : in_sector present wanted Rises s ≡ false =
      split (in_sector present wanted Rises s) (λ u. absurd (true_not_false (sym (all_locked status (suc s) t) ∙ rises_unlocked s l u))) (λ u. u) in
      rw r (none_locked s l (all_locked status (suc s) t)))

-- ---- the length is the number

module _ (status : ℕ) (present wanted : List ℕ) where
  pub length_programs : (chip : Bool) → length (programs present wanted status chip) ≡ programs_in present wanted status chip
  unfolding programs programs_in
  length_programs chip =
      length_joined chip_pages (program_of present wanted status chip)
      ∙ sum_same chip_pages (λ n. length (program_of present wanted status chip n)) (λ n. one (chosen present wanted status chip n))
      (λ n l. length_one (chosen present wanted status chip n) (program n (page_of wanted n)))
      ∙ sym (sum_blocks sector_pages flash_sectors (λ n. one (chosen present wanted status chip n)))
      ∙ sum_same flash_sectors (λ s. count_below sector_pages (λ j. chosen present wanted status chip (sector_pages * s + j))) (λ s. pages_of present wanted (test_in present wanted status chip s) s)
      (λ s l. sum_same sector_pages (λ j. one (chosen present wanted status chip (sector_pages * s + j))) (λ j. one (in_page present wanted (test_in present wanted status chip s) (sector_pages * s + j)))
      (λ j b. ap (λ (i : ℕ). one (in_page present wanted (test_in present wanted status chip i) (sector_pages * s + j))) (in_sector_lem s j b)))

  pub length_erases : (chip : Bool) → length (erases present wanted chip) ≡ erases_in present wanted chip
  unfolding erases erases_in
  length_erases true = refl
  length_erases false =
      length_joined flash_sectors (erase_of present wanted)
      ∙ sum_same flash_sectors (λ s. length (erase_of present wanted s)) (λ s. one (in_sector present wanted Rises s))
      (λ s l. length_one (in_sector present wanted Rises s) (sector_erase (suc s)))

  pub length_plan : (chip : Bool) → length (plan_by present wanted status chip) ≡ erases_in present wanted chip + programs_in present wanted status chip
  unfolding plan_by
  length_plan chip =
      length-append (erases present wanted chip) (programs present wanted status chip)
      ∙ ap₂ (λ (x y : ℕ). x + y) (length_erases chip) (length_programs chip)
