-- The bytes of a list of entries, laid one after the other: their lengths, and stores that follow one another. Assumes nothing.
use mathlib.Core.Path.{◌≡◌, refl, sym, ap, ap₂, ◌∙◌, subst}
use mathlib.Core.Bool.{Bool, true, false}
use mathlib.Core.List.{List, [], ◌∷◌, ◌++◌, append_assoc}
use Prim.Native.Nat.{ℕ, zero, suc, ◌+◌, ◌*◌, ◌≤◌, ◌<◌}
use mathlib.Core.Logic.{⊎_elim}
use native.Mathlib.Nat.{eq-or-lt_of_le, le_of_suc-le-suc, add-zero, add-suc, suc-add}
use native.Mathlib.Omega.{arith}
use lib.ListN.{length, take, drop, get_or, set, length-append}
use lib.Seq.{sets, sets-eq, length-sets, drop-drop, ext_get_or}
use Rattle.law.specs.Words.{pick, by_place}
use Rattle.law.specs.Places.{by_place_length, by_place_at}
use Rattle.page.specs.Geometry.{flash_size, flash_sectors, sector_pages}
use Rattle.fewest.specs.Below.{joined_below, joined_more, joined_same, joined_blocks}
use Rattle.fewest.specs.Entries.{Entry, sector_erase, chip_erase, program}
use Rattle.fewest.specs.Fewest.{address, spelled_entry, spelled_list, page_of}
use Rattle.fewest.specs.Plan.{erases, program_of, programs, plan_by, program_if, sector_programs, test_in}
use Rattle.fewest.proofs.Attains.{in_sector_lem}
use Rattle.fewest.proofs.Sizes.{spelled_append, length_spelled_append, spelled_one, spelled_none, length_page}
use Rattle.fewest.specs.Call.{laid_over}

-- two runs of stores, one after the other
pub followed : (l : List ℕ) (i : ℕ) (vs ws : List ℕ) → sets (sets l i vs) (i + length vs) ws ≡ sets l i (vs ++ ws)
followed l i [] ws = ap (λ (k : ℕ). sets l k ws) (add-zero i)
followed l i (a ∷ vs) ws =
    ap (λ (k : ℕ). sets (sets (set l i a) (suc i) vs) k ws) (add-suc i (length vs) ∙ sym (suc-add i (length vs)))
    ∙ followed (set l i a) (suc i) vs ws

-- a part filled place by place with as many bytes is those bytes
pub filled : (bytes part : List ℕ) → length part ≡ length bytes → by_place (λ q x. get_or bytes q 0) 0 part ≡ bytes
filled bytes part e =
    let f : ℕ → ℕ → ℕ = λ q x. get_or bytes q 0 in
    ext_get_or 0 (by_place f 0 part) bytes (by_place_length f 0 part ∙ e) (λ i h. by_place_at f i part (subst (λ (k : ℕ). i < k) (by_place_length f 0 part) h))

-- a part that was lent comes back where it stood
pub landed : (xs ys : List ℕ) (at n : ℕ) → length ys ≡ n → at + n ≤ length xs → take at xs ++ (ys ++ drop n (drop at xs)) ≡ sets xs at ys
landed xs ys at n e h =
    ap (λ (r : List ℕ). take at xs ++ (ys ++ r)) (drop-drop n at xs ∙ ap (λ (k : ℕ). drop (at + k) xs) (sym e))
    ∙ sym (append_assoc (take at xs) ys (drop (at + length ys) xs))
    ∙ sym (sets-eq ys xs at (subst (λ (k : ℕ). at + k ≤ length xs) (sym e) h))

-- what stands at the list's start
pub laid_over_lem : (bytes list : List ℕ) → length bytes ≤ length list → sets list 0 bytes ≡ laid_over bytes list
unfolding laid_over
laid_over_lem bytes list h =
    let z : 0 + length bytes ≡ length bytes = omega arith in
    sets-eq bytes list 0 (subst (λ (k : ℕ). k ≤ length list) (sym z) h) ∙ ap (λ (k : ℕ). bytes ++ drop k list) z

-- the next one has room
pub room : (f : ℕ → List Entry) (n m : ℕ) → n < m → length (spelled_list (joined_below n f)) + length (spelled_list (f n)) ≤ length (spelled_list (joined_below m f))
unfolding joined_below
room f n zero l = absurd (omega arith)
room f n (suc m) l =
    let e = length_spelled_append (joined_below m f) (f m) in
    ⊎_elim (λ (w : n ≡ m). subst (λ (k : ℕ). length (spelled_list (joined_below k f)) + length (spelled_list (f k)) ≤ length (spelled_list (joined_below m f ++ f m))) (sym w) (omega (arith, e)))
    (λ (w : n < m). omega (arith, e, room f n m w))
    (eq-or-lt_of_le (le_of_suc-le-suc l))

-- a program's entry: its head, and its page in the part behind it
pub program_laid : (xs ys zs wanted : List ℕ) (n at m : ℕ) → ys ≡ sets xs at (3 ∷ address (256 * n)) → zs ≡ page_of wanted n
    → length wanted ≡ flash_size → n < 512 → m ≡ 256 → at + 260 ≤ length xs
    → take (at + 4) ys ++ (zs ++ drop m (drop (at + 4) ys)) ≡ sets xs at (spelled_entry (program n (page_of wanted n)))
program_laid xs ys zs wanted n at m p q w l e h =
    let long : length zs ≡ m = ap (λ (z : List ℕ). length z) q ∙ length_page wanted n w l ∙ sym e in
    let same : length ys ≡ length xs = ap (λ (z : List ℕ). length z) p ∙ length-sets xs at (3 ∷ address (256 * n)) in
    landed ys zs (at + 4) m long (omega arith)
    ∙ ap₂ (λ (y z : List ℕ). sets y (at + 4) z) p q
    ∙ followed xs at (3 ∷ address (256 * n)) (page_of wanted n)

-- an entry that is put where it is needed
module _ (o : Entry) (yes : Bool) (at : ℕ) where
  spelled_yes : yes ≡ true → spelled_list (pick yes (o ∷ []) []) ≡ spelled_entry o
  spelled_yes t = ap (λ (b : Bool). spelled_list (pick b (o ∷ []) [])) t ∙ spelled_one o

  spelled_no : yes ≡ false → spelled_list (pick yes (o ∷ []) []) ≡ []
  spelled_no t = ap (λ (b : Bool). spelled_list (pick b (o ∷ []) [])) t ∙ spelled_none

  pub put_yes : (l r : List ℕ) → yes ≡ true → r ≡ sets l at (spelled_entry o) → r ≡ sets l at (spelled_list (pick yes (o ∷ []) []))
  put_yes l r t e = e ∙ ap (sets l at) (sym (spelled_yes t))

  pub put_no : (l : List ℕ) → yes ≡ false → l ≡ sets l at (spelled_list (pick yes (o ∷ []) []))
  put_no l t = ap (sets l at) (sym (spelled_no t))

  pub next_yes : (n : ℕ) → yes ≡ true → length (spelled_entry o) ≡ n → at + n ≡ at + length (spelled_list (pick yes (o ∷ []) []))
  next_yes n t e = ap (λ (k : ℕ). at + k) (sym (ap (λ (l : List ℕ). length l) (spelled_yes t) ∙ e))

  pub next_no : yes ≡ false → at ≡ at + length (spelled_list (pick yes (o ∷ []) []))
  next_no t = let z = ap (λ (l : List ℕ). length l) (spelled_no t) in omega (arith, z)

  pub fits_yes : (n m : ℕ) → yes ≡ true → length (spelled_entry o) ≡ n → at + length (spelled_list (pick yes (o ∷ []) [])) ≤ m → at + n ≤ m
  fits_yes n m t e h = subst (λ (k : ℕ). k ≤ m) (sym (next_yes n t e)) h

pub erase_entry : (s : ℕ) → 1 ∷ address (32768 * s) ≡ spelled_entry (sector_erase (suc s))
erase_entry s = ap (λ (k : ℕ). 1 ∷ address (32768 * k)) (omega arith)

-- a loop that lays the lists of the numbers below a bound one after the other, from `first` on
module _ (f : ℕ → List Entry) (first : ℕ) (l₀ : List ℕ) where
  abbrev pub laid_at : ℕ → ℕ → Type 0
  laid_at n at = at ≡ first + length (spelled_list (joined_below n f))

  abbrev pub laid_so : ℕ → List ℕ → Type 0
  laid_so n l = l ≡ sets l₀ first (spelled_list (joined_below n f))

  pub lay_start : laid_at 0 first
  unfolding joined_below spelled_list
  lay_start = omega arith

  pub lay_none : laid_so 0 l₀
  unfolding joined_below spelled_list
  lay_none = refl

  pub lay_room : (bound n at : ℕ) (l : List ℕ) (x : List Entry) → n < bound → x ≡ f n → laid_at n at
      → first + length (spelled_list (joined_below bound f)) ≤ length l₀ → length l ≡ length l₀ → at + length (spelled_list x) ≤ length l
  lay_room bound n at l x h e a fits same =
      let same_bytes = ap (λ (y : List Entry). length (spelled_list y)) e in
      omega (arith, room f n bound h, same_bytes)

  lay_bytes : (n : ℕ) → spelled_list (joined_below (n + 1) f) ≡ spelled_list (joined_below n f) ++ spelled_list (f n)
  lay_bytes n = ap spelled_list (joined_more n f) ∙ spelled_append (joined_below n f) (f n)

  pub lay_at : (n at next : ℕ) (x : List Entry) → x ≡ f n → laid_at n at → next ≡ at + length (spelled_list x) → laid_at (n + 1) next
  lay_at n at next x e a h =
      let same_bytes = ap (λ (y : List Entry). length (spelled_list y)) e in
      let longer = ap (λ (y : List ℕ). length y) (lay_bytes n) ∙ length-append (spelled_list (joined_below n f)) (spelled_list (f n)) in
      omega (arith, same_bytes, longer)

  pub lay_so : (n at : ℕ) (l r : List ℕ) (x : List Entry) → x ≡ f n → laid_at n at → laid_so n l → r ≡ sets l at (spelled_list x) → laid_so (n + 1) r
  lay_so n at l r x e a s h =
      h
      ∙ ap (λ (y : List Entry). sets l at (spelled_list y)) e
      ∙ ap₂ (λ (y : List ℕ) (k : ℕ). sets y k (spelled_list (f n))) s a
      ∙ followed l₀ first (spelled_list (joined_below n f)) (spelled_list (f n))
      ∙ ap (sets l₀ first) (sym (lay_bytes n))

-- the chip's erase
pub chip_entry : (present wanted : List ℕ) (chip : Bool) → chip ≡ true → spelled_list (erases present wanted chip) ≡ 2 ∷ address 0
unfolding erases
chip_entry present wanted chip t = ap (λ (b : Bool). spelled_list (erases present wanted b)) t ∙ spelled_one chip_erase

-- ---- the whole plan

module _ (present wanted : List ℕ) (status : ℕ) (chip : Bool) where
  plan_bytes : spelled_list (plan_by present wanted status chip) ≡ spelled_list (erases present wanted chip) ++ spelled_list (programs present wanted status chip)
  unfolding plan_by
  plan_bytes = spelled_append (erases present wanted chip) (programs present wanted status chip)

  pub plan_size : length (spelled_list (plan_by present wanted status chip)) ≡ length (spelled_list (erases present wanted chip)) + length (spelled_list (programs present wanted status chip))
  unfolding plan_by
  plan_size = length_spelled_append (erases present wanted chip) (programs present wanted status chip)

  pub erases_fit : (m : ℕ) → length (spelled_list (plan_by present wanted status chip)) ≤ m → length (spelled_list (erases present wanted chip)) ≤ m
  erases_fit m h = omega (arith, plan_size)

  pub programs_fit : (at m : ℕ) → at ≡ length (spelled_list (erases present wanted chip)) → length (spelled_list (plan_by present wanted status chip)) ≤ m
      → at + length (spelled_list (programs present wanted status chip)) ≤ m
  programs_fit at m e h = omega (arith, plan_size)

  pub plan_laid : (l x y : List ℕ) (at : ℕ) → x ≡ sets l 0 (spelled_list (erases present wanted chip)) → at ≡ length (spelled_list (erases present wanted chip))
      → y ≡ sets x at (spelled_list (programs present wanted status chip)) → length (spelled_list (plan_by present wanted status chip)) ≤ length l
      → y ≡ laid_over (spelled_list (plan_by present wanted status chip)) l
  plan_laid l x y at p a q h =
      q
      ∙ ap₂ (λ (z : List ℕ) (k : ℕ). sets z k (spelled_list (programs present wanted status chip))) p (a ∙ omega arith)
      ∙ followed l 0 (spelled_list (erases present wanted chip)) (spelled_list (programs present wanted status chip))
      ∙ ap (λ (z : List ℕ). sets l 0 z) (sym plan_bytes)
      ∙ laid_over_lem (spelled_list (plan_by present wanted status chip)) l h

-- the programs of all sectors, one after the other
pub by_sectors : (present wanted : List ℕ) (status : ℕ) (chip : Bool)
    → joined_below flash_sectors (λ s. sector_programs present wanted (test_in present wanted status chip s) s) ≡ programs present wanted status chip
unfolding programs sector_programs
by_sectors present wanted status chip =
    joined_same flash_sectors (λ s. joined_below sector_pages (λ j. program_if present wanted (test_in present wanted status chip s) (sector_pages * s + j)))
    (λ s. joined_below sector_pages (λ j. program_of present wanted status chip (sector_pages * s + j)))
    (λ s l.
    joined_same sector_pages (λ j. program_if present wanted (test_in present wanted status chip s) (sector_pages * s + j)) (λ j. program_of present wanted status chip (sector_pages * s + j))
    (λ j b. ap (λ (i : ℕ). program_if present wanted (test_in present wanted status chip i) (sector_pages * s + j)) (sym (in_sector_lem s j b))))
    ∙ joined_blocks sector_pages flash_sectors (program_of present wanted status chip)
