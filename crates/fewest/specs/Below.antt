-- The numbers below a bound: whether a test holds of any, how many it holds of, sums, and lists laid one after the other. No domain.
use Rattle.std.specs.Prelude.{◌≡◌, refl, Bool, true, false, ◌⊎◌, List, [], ◌++◌, ℕ, zero, suc, ◌+◌, ◌*◌, ◌≤◌, ◌<◌, length}
use Rattle.std.proofs.Common.{sym, ap, ap₂, ◌∙◌, subst, ⊎_elim, append-nil, append_assoc, not-suc-le-zero, eq-or-lt_of_le, le_of_suc-le-suc, add-zero, add-suc, mul-suc, mul-zero, add-one, arith, length-append}
use Rattle.law.specs.Words.{pick}
use Rattle.law.specs.Choice.{split, true_not_false}

-- does the test hold of any number below n?
unfoldable pub any_below : ℕ → (ℕ → Bool) → Bool
any_below zero f = false
any_below (suc n) f = pick (f n) true (any_below n f)

unfoldable pub sum_below : ℕ → (ℕ → ℕ) → ℕ
sum_below zero f = 0
sum_below (suc n) f = sum_below n f + f n

abbrev pub one : Bool → ℕ
one b = pick b 1 0

-- of how many numbers below n does the test hold?
abbrev pub count_below : ℕ → (ℕ → Bool) → ℕ
count_below n f = sum_below n (λ i. one (f i))

-- the lists of the numbers below n, one after the other
unfoldable pub joined_below : {A : Type 0} → ℕ → (ℕ → List A) → List A
joined_below zero f = []
joined_below (suc n) f = joined_below n f ++ f n

-- ---- any

last_or_below : (n i : ℕ) → i < suc n → (i ≡ n) ⊎ (i < n)
last_or_below n i h = eq-or-lt_of_le (le_of_suc-le-suc h)

pub any_none : (n : ℕ) (f : ℕ → Bool) → ((i : ℕ) → i < n → f i ≡ false) → any_below n f ≡ false
unfolding any_below
any_none zero f h = refl
any_none (suc n) f h = rw (h n (omega arith)) (any_none n f (λ i l. h i (omega arith)))

pub any_here : (n i : ℕ) (f : ℕ → Bool) → i < n → f i ≡ true → any_below n f ≡ true
unfolding any_below
any_here zero i f l e = absurd (not-suc-le-zero l)
any_here (suc n) i f l e =
    split (f n) (λ t. rw t refl)
    (λ t. rw t
    (⊎_elim (λ (w : i ≡ n). absurd (true_not_false (sym e ∙ ap f w ∙ t))) (λ (w : i < n). any_here n i f w e) (last_or_below n i l)))

pub any_false : (n : ℕ) (f : ℕ → Bool) → any_below n f ≡ false → (i : ℕ) → i < n → f i ≡ false
any_false n f h i l = split (f i) (λ t. absurd (true_not_false (sym (any_here n i f l t) ∙ h))) (λ t. t)

pub any_true : (n : ℕ) (f : ℕ → Bool) → any_below n f ≡ true → (i : ℕ) × (i < n) × (f i ≡ true)
unfolding any_below
any_true zero f h = absurd (true_not_false (sym h))
any_true (suc n) f h =
    split (f n) (λ t. (n, omega arith, t))
    (λ t. let r = any_true n f (rw t at h) in (r.0, omega (arith, r.1), r.2))

-- ---- sums

pub sum_le : (n : ℕ) (f g : ℕ → ℕ) → ((i : ℕ) → i < n → f i ≤ g i) → sum_below n f ≤ sum_below n g
unfolding sum_below
sum_le zero f g h = omega arith
sum_le (suc n) f g h = omega (arith, sum_le n f g (λ i l. h i (omega arith)), h n (omega arith))

pub sum_same : (n : ℕ) (f g : ℕ → ℕ) → ((i : ℕ) → i < n → f i ≡ g i) → sum_below n f ≡ sum_below n g
unfolding sum_below
sum_same zero f g h = refl
sum_same (suc n) f g h = ap₂ (λ (x y : ℕ). x + y) (sum_same n f g (λ i l. h i (omega arith))) (h n (omega arith))

pub sum_plus : (n : ℕ) (f g : ℕ → ℕ) → sum_below n (λ i. f i + g i) ≡ sum_below n f + sum_below n g
unfolding sum_below
sum_plus zero f g = refl
sum_plus (suc n) f g = omega (arith, sum_plus n f g)

pub sum_zero : (n : ℕ) (f : ℕ → ℕ) → ((i : ℕ) → i < n → f i ≡ 0) → sum_below n f ≡ 0
unfolding sum_below
sum_zero zero f h = refl
sum_zero (suc n) f h = omega (arith, sum_zero n f (λ i l. h i (omega arith)), h n (omega arith))

pub sum_add : (n m : ℕ) (f : ℕ → ℕ) → sum_below (n + m) f ≡ sum_below n f + sum_below m (λ j. f (n + j))
unfolding sum_below
sum_add n zero f = rw (add-zero n, add-zero (sum_below n f))
sum_add n (suc m) f = rw (add-suc n m) (omega (arith, sum_add n m f))

-- a sum in blocks of a
pub sum_blocks : (a b : ℕ) (f : ℕ → ℕ) → sum_below b (λ s. sum_below a (λ j. f (a * s + j))) ≡ sum_below (a * b) f
unfolding sum_below
sum_blocks a zero f = rw (mul-zero a) refl
sum_blocks a (suc b) f = rw (mul-suc a b) (omega (arith, sum_blocks a b f, sum_add (a * b) a f))

-- where the larger sum is no larger, no part is
pub sum_tight : (n : ℕ) (f g : ℕ → ℕ) → ((i : ℕ) → i < n → f i ≤ g i) → sum_below n g ≤ sum_below n f → (i : ℕ) → i < n → g i ≤ f i
unfolding sum_below
sum_tight zero f g h e i l = absurd (not-suc-le-zero l)
sum_tight (suc n) f g h e i l =
    let below = sum_le n f g (λ k b. h k (omega arith)) in
    let here = h n (omega arith) in
    ⊎_elim (λ (w : i ≡ n). subst (λ (k : ℕ). g k ≤ f k) (sym w) (omega (arith, below)))
    (λ (w : i < n). sum_tight n f g (λ k b. h k (omega arith)) (omega (arith, here)) i w)
    (last_or_below n i l)

-- ---- counts

pub one_le : (a b : Bool) → (a ≡ true → b ≡ true) → one a ≤ one b
one_le true b h = rw (h refl) (omega arith)
one_le false b h = omega arith

pub count_le : (n : ℕ) (f g : ℕ → Bool) → ((i : ℕ) → i < n → f i ≡ true → g i ≡ true) → count_below n f ≤ count_below n g
count_le n f g h = sum_le n (λ i. one (f i)) (λ i. one (g i)) (λ i l. one_le (f i) (g i) (h i l))

pub one_back : (a b : Bool) → one a ≤ one b → a ≡ true → b ≡ true
one_back a true h e = refl
one_back a false h e = absurd (none (ap one e) h)
  where
    none : {x : ℕ} → x ≡ 1 → x ≤ 0 → ⊥
    none p q = omega arith

pub count_tight : (n : ℕ) (f g : ℕ → Bool) → ((i : ℕ) → i < n → f i ≡ true → g i ≡ true) → count_below n g ≤ count_below n f
    → (i : ℕ) → i < n → g i ≡ true → f i ≡ true
count_tight n f g h e i l =
    one_back (g i) (f i) (sum_tight n (λ k. one (f k)) (λ k. one (g k)) (λ k b. one_le (f k) (g k) (h k b)) e i l)

pub same_flag : (a b : Bool) → (a ≡ true → b ≡ true) → (b ≡ true → a ≡ true) → a ≡ b
same_flag true b f g = sym (f refl)
same_flag false true f g = g refl
same_flag false false f g = refl

-- at most one number is m
pub count_one : (n m : ℕ) (f : ℕ → Bool) → ((i : ℕ) → f i ≡ true → i ≡ m) → count_below n f ≤ 1
unfolding sum_below
count_one zero m f h = omega arith
count_one (suc n) m f h =
    split (f n)
    (λ t.
    let none : count_below n f ≡ 0 =
    sum_zero n (λ i. one (f i))
    (λ i l. split (f i) (λ u. let a = h i u in let b = h n t in absurd (bad i n l (a ∙ sym b))) (λ u. rw u refl)) in
    rw t (omega arith))
    (λ t. rw t (omega (arith, count_one n m f h)))
  where
    bad : (i n : ℕ) → i < n → i ≡ n → ⊥
    bad i n l e = omega arith

-- ---- lists

pub length_joined : {A : Type 0} (n : ℕ) (f : ℕ → List A) → length (joined_below n f) ≡ sum_below n (λ i. length (f i))
unfolding joined_below sum_below
length_joined zero f = refl
length_joined (suc n) f = length-append (joined_below n f) (f n) ∙ ap (λ (k : ℕ). k + length (f n)) (length_joined n f)

pub joined_same : {A : Type 0} (n : ℕ) (f g : ℕ → List A) → ((i : ℕ) → i < n → f i ≡ g i) → joined_below n f ≡ joined_below n g
unfolding joined_below
joined_same zero f g h = refl
joined_same (suc n) f g h = ap₂ (λ xs ys. xs ++ ys) (joined_same n f g (λ i l. h i (omega arith))) (h n (omega arith))

joined_add : {A : Type 0} (n m : ℕ) (f : ℕ → List A) → joined_below (n + m) f ≡ joined_below n f ++ joined_below m (λ j. f (n + j))
unfolding joined_below
joined_add n zero f = rw (add-zero n) (sym (append-nil (joined_below n f)))
joined_add n (suc m) f =
    rw (add-suc n m)
    (ap (λ xs. xs ++ f (n + m)) (joined_add n m f) ∙ append_assoc (joined_below n f) (joined_below m (λ j. f (n + j))) (f (n + m)))

-- lists in blocks of a
pub joined_blocks : {A : Type 0} (a b : ℕ) (f : ℕ → List A) → joined_below b (λ s. joined_below a (λ j. f (a * s + j))) ≡ joined_below (a * b) f
unfolding joined_below
joined_blocks a zero f = rw (mul-zero a) refl
joined_blocks a (suc b) f =
    rw (mul-suc a b) (ap (λ xs. xs ++ joined_below a (λ j. f (a * b + j))) (joined_blocks a b f) ∙ sym (joined_add (a * b) a f))

-- ---- loops that count up by one

pub any_start : (f : ℕ → Bool) → any_below 0 f ≡ false
unfolding any_below
any_start f = refl

pub any_more : (n : ℕ) (f : ℕ → Bool) → any_below n f ≡ false → f n ≡ false → any_below (n + 1) f ≡ false
unfolding any_below
any_more n f a b = rw (add-one n, b) a

pub any_next : (n : ℕ) (f : ℕ → Bool) → any_below (n + 1) f ≡ pick (f n) true (any_below n f)
unfolding any_below
any_next n f = rw (add-one n) refl

pub sum_start : (f : ℕ → ℕ) → sum_below 0 f ≡ 0
unfolding sum_below
sum_start f = refl

pub sum_more : (n : ℕ) (f : ℕ → ℕ) → sum_below (n + 1) f ≡ sum_below n f + f n
unfolding sum_below
sum_more n f = rw (add-one n) refl

pub joined_start : {A : Type 0} (f : ℕ → List A) → joined_below 0 f ≡ []
unfolding joined_below
joined_start f = refl

pub joined_more : {A : Type 0} (n : ℕ) (f : ℕ → List A) → joined_below (n + 1) f ≡ joined_below n f ++ f n
unfolding joined_below
joined_more n f = rw (add-one n) refl
