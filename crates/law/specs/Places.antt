-- A list changed place by place, and the loop that does it from the front: after n turns the first n places are done.
use Rattle.std.specs.Prelude.{◌≡◌, refl, List, [], ◌∷◌, ℕ, zero, suc, ◌+◌, ◌≤◌, ◌<◌, length, get_or, set}
use Rattle.std.proofs.Common.{sym, ap, ap₂, ◌∙◌, not-suc-le-zero, le_of_suc-le-suc, add-zero, add-suc, suc-add, zero-add, add-one}
use Rattle.law.specs.Words.{by_place}

abbrev pub done_from : (ℕ → ℕ → ℕ) → ℕ → ℕ → List ℕ → List ℕ
done_from f i zero xs = xs
done_from f i (suc n) [] = []
done_from f i (suc n) (x ∷ xs) = f i x ∷ done_from f (suc i) n xs

abbrev pub done : (ℕ → ℕ → ℕ) → ℕ → List ℕ → List ℕ
done f n xs = done_from f 0 n xs

get_d_from : (f : ℕ → ℕ → ℕ) (i n : ℕ) (xs : List ℕ) → get_or (done_from f i n xs) n 0 ≡ get_or xs n 0
get_d_from f i zero xs = refl
get_d_from f i (suc n) [] = refl
get_d_from f i (suc n) (x ∷ xs) = get_d_from f (suc i) n xs

-- the next place is as it was
pub next : (f : ℕ → ℕ → ℕ) (n : ℕ) (xs : List ℕ) → get_or (done f n xs) n 0 ≡ get_or xs n 0
next f n xs = get_d_from f 0 n xs

more_from : (f : ℕ → ℕ → ℕ) (i n : ℕ) (xs : List ℕ) → n < length xs → set (done_from f i n xs) n (f (i + n) (get_or xs n 0)) ≡ done_from f i (suc n) xs
more_from f i n [] h = absurd (not-suc-le-zero h)
more_from f i zero (x ∷ xs) h = ap (λ (k : ℕ). f k x ∷ xs) (add-zero i)
more_from f i (suc n) (x ∷ xs) h =
    ap (λ (l : List ℕ). f i x ∷ l)
    (ap (λ (k : ℕ). set (done_from f (suc i) n xs) n (f k (get_or xs n 0))) (add-suc i n ∙ sym (suc-add i n))
    ∙ more_from f (suc i) n xs (le_of_suc-le-suc h))

-- a turn at place n stores what f gives there
pub more : (f : ℕ → ℕ → ℕ) (n y : ℕ) (xs ys : List ℕ) → n < length xs → ys ≡ done f n xs → y ≡ f n (get_or xs n 0) → set ys n y ≡ done f (n + 1) xs
more f n y xs ys h p e =
    ap₂ (λ (l : List ℕ) (z : ℕ). set l n z) p e
    ∙ ap (λ (k : ℕ). set (done f n xs) n (f k (get_or xs n 0))) (sym (zero-add n))
    ∙ more_from f 0 n xs h
    ∙ ap (λ (k : ℕ). done f k xs) (sym (add-one n))

all_from : (f : ℕ → ℕ → ℕ) (i n : ℕ) (xs : List ℕ) → length xs ≤ n → done_from f i n xs ≡ by_place f i xs
all_from f i zero [] h = refl
all_from f i zero (x ∷ xs) h = absurd (not-suc-le-zero h)
all_from f i (suc n) [] h = refl
all_from f i (suc n) (x ∷ xs) h = ap (λ (l : List ℕ). f i x ∷ l) (all_from f (suc i) n xs (le_of_suc-le-suc h))

pub all : (f : ℕ → ℕ → ℕ) (n : ℕ) (xs : List ℕ) → length xs ≤ n → done f n xs ≡ by_place f 0 xs
all f n xs h = all_from f 0 n xs h

pub by_place_length : (f : ℕ → ℕ → ℕ) (i : ℕ) (xs : List ℕ) → length (by_place f i xs) ≡ length xs
by_place_length f i [] = refl
by_place_length f i (x ∷ xs) = ap suc (by_place_length f (suc i) xs)

from : (f : ℕ → ℕ → ℕ) (i n : ℕ) (xs : List ℕ) → n < length xs → get_or (by_place f i xs) n 0 ≡ f (i + n) (get_or xs n 0)
from f i n [] h = absurd (not-suc-le-zero h)
from f i zero (x ∷ xs) h = ap (λ (k : ℕ). f k x) (sym (add-zero i))
from f i (suc n) (x ∷ xs) h =
    from f (suc i) n xs (le_of_suc-le-suc h) ∙ ap (λ (k : ℕ). f k (get_or xs n 0)) (suc-add i n ∙ sym (add-suc i n))

-- each place is changed by itself
pub by_place_at : (f : ℕ → ℕ → ℕ) (n : ℕ) (xs : List ℕ) → n < length xs → get_or (by_place f 0 xs) n 0 ≡ f n (get_or xs n 0)
by_place_at f n xs h = from f 0 n xs h ∙ ap (λ (k : ℕ). f k (get_or xs n 0)) (zero-add n)
