-- The laws of rolling inside a page, proved once over the page: its size, or its last place. 64 and 256 are instances.
use Rattle.std.specs.Prelude.{◌≡◌, refl, ◌≢◌, true, false, List, [], ◌∷◌, ◌++◌, ℕ, suc, ◌+◌, ◌-◌, ◌*◌, ◌/◌, ◌%◌, ◌≤◌, ◌<◌, ltb, length, get_or, set}
use Rattle.std.proofs.Common.{sym, ap, ap₂, ◌∙◌, subst, mod-lt, mod-eq_of_lt, div-add-mod', add-zero, lt_of_le_of_lt, arith, ltb-true, ltb-false, lt-ltb, length-set, get_or-set_same, get_or-set_other}
use Rattle.std.proofs.Math.Nat.{mod_self, mod-mod, div-eq_of_lt, mod-add-mod, add-mod-mod, add-mod_right, mul-add-div_right, mul-add-mod_self_right, mod-le}
use Rattle.law.specs.Choice.{split, true_not_false}
use Rattle.page.specs.Rolling.{rolled_in, next_in, sent_place}
use Rattle.page.specs.Roll.{place, roll, place_after}

-- the place after one is the next, modulo the page's size
pub rolled_mod : (last at : ℕ) → at ≤ last → rolled_in last at ≡ (at + 1) % (last + 1)
rolled_mod last at h =
    split (ltb at last)
    (λ t. let l = ltb-true at last t in simp (t) (sym (mod-eq_of_lt (omega arith))))
    (λ t. let l = ltb-false at last t in let e : at ≡ last = omega arith in simp (t) (rw e (sym (mod_self (last + 1)))))

-- it is never past the last
pub rolled_small : (last at : ℕ) → rolled_in last at ≤ last
rolled_small last at = split (ltb at last) (λ t. simp (t) (omega (arith, ltb-true at last t))) (λ t. simp (t) (omega arith))

-- the first byte goes to the first place, and the byte after it is the first of those that are left
pub place_first : (size first : ℕ) → first < size → place size first 0 ≡ first
place_first size first h = ap (λ (k : ℕ). k % size) (add-zero first) ∙ mod-eq_of_lt h

pub place_next : (size first k : ℕ) → place size ((first + 1) % size) k ≡ place size first (suc k)
place_next size first k = mod-add-mod (first + 1) size k ∙ ap (λ (n : ℕ). n % size) (omega arith)

module _ (size : ℕ) (z : 0 < size) where
  -- the page stays, and the place in it goes on
  pub after_page : (p n : ℕ) → place_after size p n / size ≡ p / size
  after_page p n =
      mul-add-div_right z (p / size) (place size (p % size) n)
      ∙ ap (λ (k : ℕ). p / size + k) (div-eq_of_lt (mod-lt (p % size + n) z)) ∙ add-zero (p / size)

  pub after_low : (p n : ℕ) → place_after size p n % size ≡ place size (p % size) n
  after_low p n = mul-add-mod_self_right (p / size) size (place size (p % size) n) ∙ mod-mod (p % size + n) size

  -- no byte yet, one byte, one byte more
  pub after_none : (p : ℕ) → place_after size p 0 ≡ p
  after_none p = ap (λ (k : ℕ). p / size * size + k) (place_first size (p % size) (mod-lt p z)) ∙ div-add-mod' p size

  pub next_is : (p : ℕ) → next_in size p ≡ place_after size p 1
  next_is p =
      let l : p % size < size = mod-lt p z in
      let e : size - 1 + 1 ≡ size = omega arith in
      ap (λ (k : ℕ). p / size * size + k) (rolled_mod (size - 1) (p % size) (omega arith) ∙ ap (λ (n : ℕ). (p % size + 1) % n) e)

  pub after_next : (p n : ℕ) → place_after size (next_in size p) n ≡ place_after size p (suc n)
  after_next p n =
      ap (λ (q : ℕ). place_after size q n) (next_is p)
      ∙ ap₂ (λ (a b : ℕ). a * size + place size b n) (after_page p 1) (after_low p 1)
      ∙ ap (λ (k : ℕ). p / size * size + k) (place_next size (p % size) n)

module _ (size first : ℕ) (h : first < size) where
  -- how many places past the first one a place is, in the rolling
  pub offset_place : (k : ℕ) → (place size first k + (size - first)) % size ≡ k % size
  offset_place k =
      mod-add-mod (first + k) size (size - first)
      ∙ ap (λ (n : ℕ). n % size) (omega arith) ∙ add-mod_right k size

  pub place_offset : (q : ℕ) → q < size → place size first ((q + (size - first)) % size) ≡ q
  place_offset q l =
      add-mod-mod first (q + (size - first)) size ∙ ap (λ (n : ℕ). n % size) (omega arith)
      ∙ add-mod_right q size ∙ mod-eq_of_lt l

  -- a place is marked as sent exactly where one of the bytes went there
  pub sent_place_lem : (n k : ℕ) → k < n → sent_place size first n (place size first k) ≡ true
  sent_place_lem n k l = lt-ltb _ n (subst (λ (j : ℕ). j < n) (sym (offset_place k)) (lt_of_le_of_lt (mod-le k size) l))

  pub place_sent_lem : (n q : ℕ) → q < size → sent_place size first n q ≡ true → (k : ℕ) × (k < n) × (place size first k ≡ q)
  place_sent_lem n q l t = ((q + (size - first)) % size, ltb-true _ n t, place_offset q l)

  -- and not where none did
  pub none_sent : (n q : ℕ) → q < size → ((k : ℕ) → k < n → place size first k ≢ q) → sent_place size first n q ≡ false
  none_sent n q l none =
      split (sent_place size first n q) (λ t. let w = place_sent_lem n q l t in absurd (none w.0 w.1 w.2)) (λ t. t)

  pub not_sent : (n q : ℕ) → sent_place size first n q ≡ false → (k : ℕ) → k < n → place size first k ≢ q
  not_sent n q t k l e = true_not_false (sym (sent_place_lem n k l) ∙ ap (sent_place size first n) e ∙ t)

  -- a page's worth of bytes reaches every place
  pub sent_all_lem : (n q : ℕ) → size ≤ n → sent_place size first n q ≡ true
  sent_all_lem n q l =
      let s : (q + (size - first)) % size < size = mod-lt (q + (size - first)) (lt_of_le_of_lt (omega arith) h) in
      lt-ltb ((q + (size - first)) % size) n (omega arith)

-- a place that no byte went to is as it was
pub roll_other : (size p : ℕ) (ds page : List ℕ) (q : ℕ) → p < size → ((k : ℕ) → k < length ds → place size p k ≢ q)
    → get_or (roll size p ds page) q 0 ≡ get_or page q 0
roll_other size p [] page q h none = refl
roll_other size p (x ∷ ds) page q h none =
    roll_other size ((p + 1) % size) ds (set page p x) q (mod-lt (p + 1) (lt_of_le_of_lt (omega arith) h))
    (λ k l e. none (suc k) (omega arith) (sym (place_next size p k) ∙ e))
    ∙ get_or-set_other page p q x 0 (λ e. none 0 (omega arith) (place_first size p h ∙ sym e))

pub roll_unsent : (size p : ℕ) (ds page : List ℕ) (q : ℕ) → p < size → sent_place size p (length ds) q ≡ false
    → get_or (roll size p ds page) q 0 ≡ get_or page q 0
roll_unsent size p ds page q h t = roll_other size p ds page q h (not_sent size p h (length ds) q t)

-- a place that a byte went to has the last of them: byte k is the last where none of the later ones goes there
pub roll_sent : (size p : ℕ) (ds page : List ℕ) (d : ℕ) (after : List ℕ) → p < size → length page ≡ size
    → ((k : ℕ) → k < length after → place size p (length ds + suc k) ≢ place size p (length ds))
    → get_or (roll size p (ds ++ (d ∷ after)) page) (place size p (length ds)) 0 ≡ d
roll_sent size p [] page d after h e none =
    roll_other size ((p + 1) % size) after (set page p d) (place size p 0) (mod-lt (p + 1) (lt_of_le_of_lt (omega arith) h))
    (λ k l w. none k l (ap (λ (j : ℕ). place size p j) (omega arith) ∙ sym (place_next size p k) ∙ w))
    ∙ rw (place_first size p h) (get_or-set_same page p d 0 (omega arith))
roll_sent size p (x ∷ ds) page d after h e none =
    let small : (p + 1) % size < size = mod-lt (p + 1) (lt_of_le_of_lt (omega arith) h) in
    ap (λ (j : ℕ). get_or (roll size ((p + 1) % size) (ds ++ (d ∷ after)) (set page p x)) j 0) (sym (place_next size p (length ds)))
    ∙ roll_sent size ((p + 1) % size) ds (set page p x) d after small (length-set page p x ∙ e)
    (λ k l w.
    none k l
    (ap (λ (j : ℕ). place size p j) (omega arith) ∙ sym (place_next size p (length ds + suc k)) ∙ w ∙ place_next size p (length ds)))
