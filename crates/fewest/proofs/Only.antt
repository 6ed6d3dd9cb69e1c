-- The plan is the only list that is what a plan must be.
use mathlib.Core.Path.{◌≡◌, refl, sym, ap, ap₂, ◌∙◌, subst}
use mathlib.Core.Bool.{Bool, true, false}
use mathlib.Core.Logic.{◌⊎◌, inl, inr}
use mathlib.Core.List.{List, [], ◌∷◌}
use Prim.Native.Nat.{ℕ, zero, suc, ◌+◌, ◌*◌, ◌/◌, ◌%◌, ◌≤◌, ◌<◌}
use native.Mathlib.Omega.{arith}
use lib.Dec.{eqb}
use lib.ListN.{length, get_or}
use borrow.Author.Tests.{eq-eqb, eqb-true}
use Rattle.law.specs.Words.{pick, All}
use Rattle.law.specs.Choice.{split, true_not_false, both}
use Rattle.flash.specs.Code.{sector_locked}
use Rattle.page.specs.Geometry.{flash_sectors, sector_pages}
use Rattle.fewest.specs.declared.Test.TheVariants.{Differs, Rises, Unblank}
use Rattle.fewest.specs.Entries.{Entry, sector_erase, chip_erase, program, starts, cycles, has, is_chip_erase}
use Rattle.fewest.specs.Fewest.{Fewest, IsPlan, InOrder, Formed, rank, page_of}
use Rattle.fewest.specs.Plan.{in_page, in_sector, by_chip, plan_by, plan_of, differs_locked, erases}
use Rattle.fewest.proofs.Costs.{cost_by_sectors, cost_by_chip}
use Rattle.fewest.proofs.Traces.{programs_page, erases_sector, erases_chip, has_if, chip_erase_is}
use Rattle.fewest.proofs.Lower.{sectors_erased, sectors_programmed, chip_programmed, chip_erased_lem}
use Rattle.fewest.proofs.Cycles.{each_starts}
use Rattle.fewest.proofs.Ordered.{no_chip_erase}
use Rattle.fewest.proofs.Theorems.{number_chip, number_sectors, plan_is_fewest, in_order, well_formed}

-- ---- lists in order with the same members are one list

unfoldable pub In : Entry → List Entry → Type 0
In o [] = ⊥
In o (p ∷ os) = (o ≡ p) ⊎ In o os

each_in : (P : Entry → Type 0) (os : List Entry) → All P os → (o : Entry) → In o os → P o
unfolding All In
each_in P [] e o i = absurd i
each_in P (p ∷ os) e o (inl q) = subst P (sym q) e.0
each_in P (p ∷ os) e o (inr i) = each_in P os e.1 o i

apart : (o p : Entry) → o ≡ p → rank o < rank p → ⊥
apart o p e l = less (rank o) (rank p) (ap rank e) l
  where
    less : (a b : ℕ) → a ≡ b → a < b → ⊥
    less a b e l = omega arith

both_less : (a b : ℕ) → a < b → b < a → ⊥
both_less a b h k = omega arith

pub same_members : (xs ys : List Entry) → InOrder xs → InOrder ys → ((o : Entry) → In o xs → In o ys) → ((o : Entry) → In o ys → In o xs) → xs ≡ ys
unfolding InOrder In
same_members [] [] p q f g = refl
same_members [] (y ∷ ys) p q f g = absurd (g y (inl refl))
same_members (x ∷ xs) [] p q f g = absurd (f x (inl refl))
same_members (x ∷ xs) (y ∷ ys) p q f g =
    let first : x ≡ y = heads (f x (inl refl)) (g y (inl refl)) in
    ap₂ (λ (o : Entry) (l : List Entry). o ∷ l) first
    (same_members xs ys p.1 q.1
    (λ o i. later x y ys first o (each_in (λ o. rank x < rank o) xs p.0 o i) (f o (inr i)))
    (λ o i. later y x xs (sym first) o (each_in (λ o. rank y < rank o) ys q.0 o i) (g o (inr i))))
  where
    heads : (x ≡ y) ⊎ In x ys → (y ≡ x) ⊎ In y xs → x ≡ y
    heads (inl e) j = e
    heads (inr i) (inl e) = sym e
    heads (inr i) (inr j) =
        absurd (both_less (rank x) (rank y) (each_in (λ o. rank x < rank o) xs p.0 y j) (each_in (λ o. rank y < rank o) ys q.0 x i))

    later : (x y : Entry) (ys : List Entry) → x ≡ y → (o : Entry) → rank x < rank o → (o ≡ y) ⊎ In o ys → In o ys
    later x y ys e o l (inl h) = absurd (apart x o (e ∙ sym h) l)
    later x y ys e o l (inr i) = i

-- ---- members, told by the tests

has_in : (f : Entry → Bool) (os : List Entry) (o : Entry) → In o os → f o ≡ true → has f os ≡ true
unfolding In has
has_in f [] o i e = absurd i
has_in f (p ∷ os) o (inl q) e = rw (ap f (sym q) ∙ e) refl
has_in f (p ∷ os) o (inr i) e = split (f p) (λ t. rw t refl) (λ t. rw t (has_in f os o i e))

in_has : (f : Entry → Bool) (os : List Entry) → has f os ≡ true → (o : Entry) × In o os × (f o ≡ true)
unfolding In has
in_has f [] e = absurd (true_not_false (sym e))
in_has f (p ∷ os) e =
    split (f p) (λ t. (p, inl refl, t)) (λ t. let r = in_has f os (rw t at e) in (r.0, inr r.1, r.2))

module _ (status : ℕ) (present wanted : List ℕ) (presentBytes : (k : ℕ) → get_or present k 0 < 256) (wantedBytes : (k : ℕ) → get_or wanted k 0 < 256)
    (allowed : differs_locked present wanted status ≡ false) where
  abbrev plan : List Entry
  plan = plan_of present wanted status

  fewest_plan : Fewest status present wanted plan
  fewest_plan = plan_is_fewest status present wanted presentBytes wantedBytes allowed

  pub plan_is : IsPlan status present wanted plan
  plan_is = record { few = fewest_plan; order = in_order status present wanted; formed = well_formed status present wanted }

  plan_chip : by_chip present wanted status ≡ true → has is_chip_erase plan ≡ true
  unfolding plan_of plan_by erases has
  plan_chip e = ap (λ (b : Bool). has is_chip_erase (plan_by present wanted status b)) e

  plan_none : by_chip present wanted status ≡ false → has is_chip_erase plan ≡ false
  unfolding plan_of
  plan_none e = ap (λ (b : Bool). has is_chip_erase (plan_by present wanted status b)) e ∙ no_chip_erase status present wanted

  plan_cost : (b : Bool) → by_chip present wanted status ≡ b → length plan ≡ pick b (cost_by_chip present wanted status) (cost_by_sectors present wanted)
  unfolding plan_of
  plan_cost b e = ap (λ (b : Bool). length (plan_by present wanted status b)) e ∙ number b
    where
      number : (b : Bool) → length (plan_by present wanted status b) ≡ pick b (cost_by_chip present wanted status) (cost_by_sectors present wanted)
      number true = number_chip status present wanted presentBytes wantedBytes allowed
      number false = number_sectors status present wanted presentBytes wantedBytes allowed

  it : (o : Entry) → is_chip_erase o ≡ true → starts status o ≡ true → erases_chip status o ≡ true
  it (sector_erase s) e st = absurd (true_not_false (sym e))
  it chip_erase e st = st
  it (program n bytes) e st = absurd (true_not_false (sym e))

  -- what a plan erases and programs, by the facts about the contents alone
  erasing : Bool → ℕ → Bool
  erasing true s = false
  erasing false s = in_sector present wanted Rises s

  programming : Bool → ℕ → ℕ → Bool
  programming true s j = pick (sector_locked status (suc s)) false (in_page present wanted Unblank (sector_pages * s + j))
  programming false s j = pick (in_sector present wanted Rises s) (in_page present wanted Unblank (sector_pages * s + j)) (in_page present wanted Differs (sector_pages * s + j))

  module _ (os : List Entry) (is : IsPlan status present wanted os) where
    same_length : length os ≡ length plan
    same_length =
        omega (arith, is.few.fewest plan fewest_plan.yields, fewest_plan.all_start, fewest_plan.fewest os is.few.yields, is.few.all_start)

    starting : (o : Entry) → In o os → starts status o ≡ true
    starting = each_in (λ o. starts status o ≡ true) os (each_starts status os is.few.all_start)

    named : has is_chip_erase os ≡ true → has (erases_chip status) os ≡ true
    named t =
        let r = in_has is_chip_erase os t in
        has_in (erases_chip status) os r.0 r.1 (it r.0 r.2 (starting r.0 r.1))

    -- a chip erase exactly where the plan has one
    chip_as : (b : Bool) → by_chip present wanted status ≡ b → has (erases_chip status) os ≡ b
    chip_as true e = named (fewest_plan.chip_erase_lem (plan_chip e) os is.few.yields (is.few.all_start ∙ same_length))
    chip_as false e =
        split (has (erases_chip status) os)
        (λ t.
        absurd (true_not_false
        (sym (is.few.chip_erase_lem (has_if (erases_chip status) is_chip_erase (chip_erase_is status) os t) plan fewest_plan.yields (fewest_plan.all_start ∙ sym same_length))
        ∙ plan_none e)))
        (λ t. t)

    few_chip : by_chip present wanted status ≡ true → cycles status os ≤ cost_by_chip present wanted status
    few_chip e = omega (arith, is.few.all_start, same_length, plan_cost true e)

    few_sectors : by_chip present wanted status ≡ false → cycles status os ≤ cost_by_sectors present wanted
    few_sectors e = omega (arith, is.few.all_start, same_length, plan_cost false e)

    erased_as : (b : Bool) → by_chip present wanted status ≡ b → (s : ℕ) → s < flash_sectors → has (erases_sector status (suc s)) os ≡ erasing b s
    unfolding erasing
    erased_as true e = chip_erased_lem status present wanted presentBytes os is.few.yields (chip_as true e) (few_chip e)
    erased_as false e = sectors_erased status present wanted presentBytes os is.few.yields (chip_as false e) (few_sectors e)

    programmed_as : (b : Bool) → by_chip present wanted status ≡ b → (s j : ℕ) → s < flash_sectors → j < sector_pages → has (programs_page status (sector_pages * s + j)) os ≡ programming b s j
    unfolding programming
    programmed_as true e = chip_programmed status present wanted presentBytes os is.few.yields (chip_as true e) (few_chip e)
    programmed_as false e = sectors_programmed status present wanted presentBytes os is.few.yields (chip_as false e) (few_sectors e)

  -- a member of one plan is a member of the other
  module _ (xs ys : List Entry) (isx : IsPlan status present wanted xs) (isy : IsPlan status present wanted ys) where
    formed_y : (o : Entry) → In o ys → Formed wanted o
    formed_y = each_in (Formed wanted) ys isy.formed

    sector_of_lem : (s : ℕ) (o : Entry) → erases_sector status s o ≡ true → o ≡ sector_erase s
    sector_of_lem s (sector_erase t) e = ap sector_erase (sym (eqb-true s t (both (starts status (sector_erase t)) (eqb s t) e).1))
    sector_of_lem s chip_erase e = absurd (true_not_false (sym e))
    sector_of_lem s (program n bytes) e = absurd (true_not_false (sym e))

    page_of_lem : (n : ℕ) (o : Entry) → Formed wanted o → programs_page status n o ≡ true → o ≡ program n (page_of wanted n)
    page_of_lem n (sector_erase t) f e = absurd (true_not_false (sym e))
    page_of_lem n chip_erase f e = absurd (true_not_false (sym e))
    page_of_lem n (program m bytes) f e =
        let q : n ≡ m = eqb-true n m (both (starts status (program m bytes)) (eqb n m) e).1 in
        ap (λ (b : List ℕ). program m b) f.1 ∙ ap (λ (k : ℕ). program k (page_of wanted k)) (sym q)

    chip_of_lem : (o : Entry) → erases_chip status o ≡ true → o ≡ chip_erase
    chip_of_lem (sector_erase t) e = absurd (true_not_false (sym e))
    chip_of_lem chip_erase e = refl
    chip_of_lem (program n bytes) e = absurd (true_not_false (sym e))

    member : (o : Entry) → Formed wanted o → starts status o ≡ true → In o xs → In o ys
    member (sector_erase zero) f st i = absurd (omega (arith, f.0))
    member (sector_erase (suc s)) f st i =
        let b = by_chip present wanted status in
        let l : s < flash_sectors = omega (arith, f.1) in
        let here = has_in (erases_sector status (suc s)) xs (sector_erase (suc s)) i (rw (st, eq-eqb (suc s) (suc s) refl) refl) in
        let there = in_has (erases_sector status (suc s)) ys (erased_as ys isy b refl s l ∙ sym (erased_as xs isx b refl s l) ∙ here) in
        subst (λ (o : Entry). In o ys) (sector_of_lem (suc s) there.0 there.2) there.1
    member chip_erase f st i =
        let b = by_chip present wanted status in
        let here = has_in (erases_chip status) xs chip_erase i st in
        let there = in_has (erases_chip status) ys (chip_as ys isy b refl ∙ sym (chip_as xs isx b refl) ∙ here) in
        subst (λ (o : Entry). In o ys) (chip_of_lem there.0 there.2) there.1
    member (program n bytes) f st i =
        let b = by_chip present wanted status in
        let s = n / sector_pages in
        let j = n % sector_pages in
        let whole : sector_pages * (n / sector_pages) + n % sector_pages ≡ n = omega arith in
        let ls : n / sector_pages < flash_sectors = omega (arith, f.0) in
        let lj : n % sector_pages < sector_pages = omega arith in
        let here = has_in (programs_page status n) xs (program n bytes) i (rw (st, eq-eqb n n refl) refl) in
        let same = programmed_as ys isy b refl s j ls lj ∙ sym (programmed_as xs isx b refl s j ls lj) in
        let there = in_has (programs_page status n) ys
        (ap (λ (k : ℕ). has (programs_page status k) ys) (sym whole) ∙ same ∙ ap (λ (k : ℕ). has (programs_page status k) xs) whole ∙ here) in
        subst (λ (o : Entry). In o ys)
        (page_of_lem n there.0 (formed_y there.0 there.1) there.2 ∙ ap (λ (c : List ℕ). program n c) (sym f.1)) there.1

    moves : (o : Entry) → In o xs → In o ys
    moves o i = member o (each_in (Formed wanted) xs isx.formed o i) (starting xs isx o i) i

  -- there is only one such list
  pub one_plan : (xs ys : List Entry) → IsPlan status present wanted xs → IsPlan status present wanted ys → xs ≡ ys
  one_plan xs ys isx isy = same_members xs ys isx.order isy.order (moves xs ys isx isy) (moves ys xs isy isx)
