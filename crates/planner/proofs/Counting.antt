-- What a chain over the numbers below a bound gives: how many pass the test, and whether any does. Assumes nothing.
use Rattle.std.proofs.Common.{◌≡◌, refl, sym, ap, ap₂, ◌∙◌, ℕ, zero, suc, ◌+◌, Bool, true, false, ◌||◌, cond, count_by, arith, zero-add}
use Rattle.std.specs.List.{range_with_len, list_any}
use Rattle.std.proofs.lemmas.List.Sums.{sum_by-cons}
use Rattle.law.specs.Words.{pick}
use Rattle.fewest.specs.Below.{any_below, sum_below, count_below, one, sum_start, sum_more, sum_add, sum_same, any_start, any_next}

cond_one : (b : Bool) → cond b 1 0 ≡ one b
cond_one true = refl
cond_one false = refl

counted_from : (a n : ℕ) (f : ℕ → Bool) → count_by f (range_with_len a n) ≡ count_below n (λ i. f (a + i))
counted_from a zero f = sym (sum_start (λ i. one (f (a + i))))
counted_from a (suc n) f =
    let g : ℕ → ℕ = λ i. one (f (a + i)) in
    let front : count_by f (range_with_len a (suc n)) ≡ cond (f a) 1 0 + count_by f (range_with_len (a + 1) n) = sum_by-cons (λ x. cond (f x) 1 0) a (range_with_len (a + 1) n) in
    let first : cond (f a) 1 0 ≡ g 0 = cond_one (f a) ∙ ap (λ (k : ℕ). one (f k)) (omega arith) in
    let back : count_below n (λ i. f (a + 1 + i)) ≡ sum_below n (λ j. g (1 + j)) = sum_same n (λ i. one (f (a + 1 + i))) (λ j. g (1 + j)) (λ i h. ap (λ (k : ℕ). one (f k)) (omega arith)) in
    let whole : sum_below (suc n) g ≡ sum_below (1 + n) g = ap (λ (k : ℕ). sum_below k g) (omega arith) in
    omega (arith, front, first, counted_from (a + 1) n f, back, whole, sum_add 1 n g, sum_more 0 g, sum_start g)

pub counted : (n : ℕ) (f : ℕ → Bool) → count_by f (range_with_len 0 n) ≡ count_below n f
counted n f = counted_from 0 n f ∙ sum_same n (λ i. one (f (0 + i))) (λ i. one (f i)) (λ i h. ap (λ (k : ℕ). one (f k)) (zero-add i))

pub either_last : (x y : Bool) → (x || y) ≡ pick y true x
either_last true true = refl
either_last true false = refl
either_last false true = refl
either_last false false = refl

either_is : (x y : Bool) → (x || y) ≡ pick x true y
either_is true y = refl
either_is false y = refl

either_first : (x y z : Bool) → pick x true (y || z) ≡ (y || pick x true z)
either_first true true z = refl
either_first true false z = refl
either_first false true z = refl
either_first false false z = refl

-- the first number apart
any_front : (n : ℕ) (f : ℕ → Bool) → any_below (n + 1) f ≡ (f 0 || any_below n (λ i. f (i + 1)))
any_front zero f =
    let g : ℕ → Bool = λ i. f (i + 1) in
    any_next 0 f ∙ ap (λ (b : Bool). pick (f 0) true b) (any_start f ∙ sym (any_start g)) ∙ sym (either_is (f 0) (any_below 0 g))
any_front (suc n) f =
    let g : ℕ → Bool = λ i. f (i + 1) in
    let m : suc n ≡ n + 1 = omega arith in
    any_next (suc n) f
    ∙ ap₂ (λ (k : ℕ) (b : Bool). pick (f k) true b) m (ap (λ (k : ℕ). any_below k f) m ∙ any_front n f)
    ∙ either_first (f (n + 1)) (f 0) (any_below n g)
    ∙ ap (λ (b : Bool). f 0 || b) (sym (any_next n g) ∙ ap (λ (k : ℕ). any_below k g) (sym m))

any_listed_from : (a n : ℕ) (f : ℕ → Bool) → list_any f (range_with_len a n) ≡ any_below n (λ i. f (a + i))
any_listed_from a zero f = sym (any_start (λ i. f (a + i)))
any_listed_from a (suc n) f =
    let h : ℕ → Bool = λ i. f (a + i) in
    let m : n + 1 ≡ suc n = omega arith in
    ap₂ (λ (x y : Bool). x || y) (ap f (first a)) (any_listed_from (a + 1) n f ∙ ap (λ (g : ℕ → Bool). any_below n g) (λ j i. f (next a i j)))
    ∙ sym (any_front n h)
    ∙ ap (λ (k : ℕ). any_below k h) m
  where
    first : (a : ℕ) → a ≡ a + 0
    first a = omega arith

    next : (a i : ℕ) → a + 1 + i ≡ a + (i + 1)
    next a i = omega arith

pub any_listed : (n : ℕ) (f : ℕ → Bool) → list_any f (range_with_len 0 n) ≡ any_below n f
any_listed n f = any_listed_from 0 n f ∙ ap (λ (g : ℕ → Bool). any_below n g) (λ i k. f (zero-add k i))
