-- The plan stands in the stated order, and its entries are well formed.
use mathlib.Core.Path.{◌≡◌, refl, sym, ap, subst}
use mathlib.Core.Bool.{Bool, true, false}
use mathlib.Core.List.{List, [], ◌∷◌, ◌++◌}
use Prim.Native.Nat.{ℕ, zero, suc, ◌+◌, ◌-◌, ◌*◌, ◌≤◌, ◌<◌}
use native.Mathlib.Nat.{lt_of_lt_of_le}
use native.Mathlib.Omega.{arith}
use Rattle.law.specs.Words.{pick, All}
use Rattle.page.specs.Geometry.{flash_page, flash_sector, flash_size, flash_sectors, chip_pages}
use Rattle.fewest.specs.declared.Test.TheVariants.{Rises}
use Rattle.fewest.specs.Below.{joined_below}
use Rattle.fewest.specs.Entries.{Entry, sector_erase, program, has, is_chip_erase}
use Rattle.fewest.specs.Fewest.{rank, InOrder, Formed, page_of}
use Rattle.fewest.specs.Plan.{in_sector, chosen, erase_of, erases, program_of, programs, plan_by}

pub each_if : (P Q : Entry → Type 0) → ((o : Entry) → P o → Q o) → (os : List Entry) → All P os → All Q os
unfolding All
each_if P Q h [] e = tt
each_if P Q h (o ∷ os) e = (h o e.0, each_if P Q h os e.1)

pub each_append : (P : Entry → Type 0) (xs ys : List Entry) → All P xs → All P ys → All P (xs ++ ys)
unfolding All
each_append P [] ys a b = b
each_append P (o ∷ xs) ys a b = (a.0, each_append P xs ys a.1 b)

each_one : (P : Entry → Type 0) (c : Bool) (o : Entry) → P o → All P (pick c (o ∷ []) [])
unfolding All
each_one P true o p = (p, tt)
each_one P false o p = tt

each_joined : (P : Entry → Type 0) (n : ℕ) (f : ℕ → List Entry) → ((i : ℕ) → i < n → All P (f i)) → All P (joined_below n f)
unfolding joined_below All
each_joined P zero f h = tt
each_joined P (suc n) f h = each_append P (joined_below n f) (f n) (each_joined P n f (λ i l. h i (omega arith))) (h n (omega arith))

-- two lists in order, with a bound between them
order_append : (b : ℕ) (xs ys : List Entry) → InOrder xs → InOrder ys → All (λ o. rank o < b) xs → All (λ o. b ≤ rank o) ys → InOrder (xs ++ ys)
unfolding InOrder All
order_append b [] ys p q u v = q
order_append b (o ∷ xs) ys p q u v = (
  each_append (λ p. rank o < rank p) xs ys p.0 (each_if (λ p. b ≤ rank p) (λ p. rank o < rank p) (λ p l. lt_of_lt_of_le u.0 l) ys v),
  order_append b xs ys p.1 q u.1 v,
)

order_one : (c : Bool) (o : Entry) → InOrder (pick c (o ∷ []) [])
unfolding InOrder All
order_one true o = (tt, tt)
order_one false o = tt

-- entries by number, whose ranks rise with it
order_joined : (r : ℕ → ℕ) (c : ℕ → Bool) (o : ℕ → Entry) → ((i : ℕ) → rank (o i) ≡ r i) → ((i : ℕ) → r i < r (suc i)) → (n : ℕ)
    → InOrder (joined_below n (λ i. pick (c i) (o i ∷ []) [])) × All (λ p. rank p < r n) (joined_below n (λ i. pick (c i) (o i ∷ []) []))
unfolding joined_below InOrder All
order_joined r c o e up zero = (tt, tt)
order_joined r c o e up (suc n) =
    let before = order_joined r c o e up n in
    let f : ℕ → List Entry = λ i. pick (c i) (o i ∷ []) [] in (
      order_append (r n) (joined_below n f) (f n) before.0 (order_one (c n) (o n)) before.1
          (each_one (λ p. r n ≤ rank p) (c n) (o n) (subst (λ (x : ℕ). r n ≤ x) (sym (e n)) (omega arith))),
      each_append (λ p. rank p < r (suc n)) (joined_below n f) (f n)
          (each_if (λ p. rank p < r n) (λ p. rank p < r (suc n)) (λ p l. omega (arith, l, up n)) (joined_below n f) before.1)
          (each_one (λ p. rank p < r (suc n)) (c n) (o n) (subst (λ (x : ℕ). x < r (suc n)) (sym (e n)) (up n))),
    )

has_append : (f : Entry → Bool) (xs ys : List Entry) → has f xs ≡ false → has f ys ≡ false → has f (xs ++ ys) ≡ false
unfolding has
has_append f [] ys a b = b
has_append f (o ∷ xs) ys a b = step (f o) (has f xs) (has f (xs ++ ys)) a (λ e. has_append f xs ys e b)
  where
    step : (t x y : Bool) → pick t true x ≡ false → (x ≡ false → y ≡ false) → pick t true y ≡ false
    step true x y e h = e
    step false x y e h = h e

has_joined : (f : Entry → Bool) (c : ℕ → Bool) (o : ℕ → Entry) → ((i : ℕ) → f (o i) ≡ false) → (n : ℕ) → has f (joined_below n (λ i. pick (c i) (o i ∷ []) [])) ≡ false
unfolding joined_below has
has_joined f c o h zero = refl
has_joined f c o h (suc n) = has_append f (joined_below n (λ i. pick (c i) (o i ∷ []) [])) (pick (c n) (o n ∷ []) []) (has_joined f c o h n) (one (c n))
  where
    one : (t : Bool) → has f (pick t (o n ∷ []) []) ≡ false
    one true = rw (h n) refl
    one false = refl

module _ (status : ℕ) (present wanted : List ℕ) where
  programs_order : (chip : Bool) → InOrder (programs present wanted status chip)
  unfolding programs
  programs_order chip =
      (order_joined (λ n. flash_size + flash_page * n) (chosen present wanted status chip) (λ n. program n (page_of wanted n)) (λ n. refl) (λ n. omega arith) chip_pages).0

  programs_late : (chip : Bool) → All (λ p. flash_size ≤ rank p) (programs present wanted status chip)
  unfolding programs
  programs_late chip =
      each_joined (λ p. flash_size ≤ rank p) chip_pages (program_of present wanted status chip)
      (λ n l. each_one (λ p. flash_size ≤ rank p) (chosen present wanted status chip n) (program n (page_of wanted n)) (omega arith))

  erases_order : (chip : Bool) → InOrder (erases present wanted chip) × All (λ p. rank p < flash_size) (erases present wanted chip)
  unfolding erases InOrder All
  erases_order true = ((tt, tt), (omega arith, tt))
  erases_order false =
      order_joined (λ s. flash_sector * s) (in_sector present wanted Rises) (λ s. sector_erase (suc s)) (λ s. ap (λ (x : ℕ). flash_sector * x) (less s)) (λ s. omega arith) flash_sectors
    where
      less : (s : ℕ) → suc s - 1 ≡ s
      less s = omega arith

  pub plan_in_order : (chip : Bool) → InOrder (plan_by present wanted status chip)
  unfolding plan_by
  plan_in_order chip =
      order_append flash_size (erases present wanted chip) (programs present wanted status chip)
      (erases_order chip).0 (programs_order chip) (erases_order chip).1 (programs_late chip)

  pub plan_well_formed : (chip : Bool) → All (Formed wanted) (plan_by present wanted status chip)
  unfolding plan_by programs erases All
  plan_well_formed chip =
      each_append (Formed wanted) (erases present wanted chip) (programs present wanted status chip)
      (first chip)
      (each_joined (Formed wanted) chip_pages (program_of present wanted status chip)
      (λ n l. each_one (Formed wanted) (chosen present wanted status chip n) (program n (page_of wanted n)) (l, refl)))
    where
      first : (chip : Bool) → All (Formed wanted) (erases present wanted chip)
      first true = (tt, tt)
      first false =
          each_joined (Formed wanted) flash_sectors (erase_of present wanted)
          (λ s l. each_one (Formed wanted) (in_sector present wanted Rises s) (sector_erase (suc s)) (omega arith, omega arith))

  pub no_chip_erase : has is_chip_erase (plan_by present wanted status false) ≡ false
  unfolding plan_by erases programs
  no_chip_erase =
      has_append is_chip_erase (joined_below flash_sectors (erase_of present wanted)) (joined_below chip_pages (program_of present wanted status false))
      (has_joined is_chip_erase (in_sector present wanted Rises) (λ s. sector_erase (suc s)) (λ s. refl) flash_sectors)
      (has_joined is_chip_erase (chosen present wanted status false) (λ n. program n (page_of wanted n)) (λ n. refl) chip_pages)
