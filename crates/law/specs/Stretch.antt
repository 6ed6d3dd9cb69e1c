-- A list changed place by place where only a stretch of it changes: the loop may begin at the stretch and stop behind it.
use Rattle.std.specs.Prelude.{◌≡◌, refl, List, [], ◌∷◌, ℕ, zero, suc, ◌+◌, ◌≤◌, ◌<◌}
use Rattle.std.proofs.Common.{sym, ap, ap₂, arith}
use Rattle.law.specs.Places.{done, done_from}
use Rattle.law.specs.Words.{by_place}

skip_from : (f : ℕ → ℕ → ℕ) (i n : ℕ) (xs : List ℕ) → ((k x : ℕ) → k < i + n → f k x ≡ x) → done_from f i n xs ≡ xs
skip_from f i zero xs same = refl
skip_from f i (suc n) [] same = refl
skip_from f i (suc n) (x ∷ xs) same =
    ap₂ (λ (y : ℕ) (l : List ℕ). y ∷ l) (same i x (omega arith)) (skip_from f (suc i) n xs (λ k y h. same k y (omega arith)))

-- nothing changes below n: the first n places are done as they are
pub skip : (f : ℕ → ℕ → ℕ) (n : ℕ) (xs : List ℕ) → ((k x : ℕ) → k < n → f k x ≡ x) → done f n xs ≡ xs
skip f n xs same = skip_from f 0 n xs (λ k x h. same k x (omega arith))

same_from : (f : ℕ → ℕ → ℕ) (i : ℕ) (xs : List ℕ) → ((k x : ℕ) → i ≤ k → f k x ≡ x) → by_place f i xs ≡ xs
same_from f i [] same = refl
same_from f i (x ∷ xs) same =
    ap₂ (λ (y : ℕ) (l : List ℕ). y ∷ l) (same i x (omega arith)) (same_from f (suc i) xs (λ k y h. same k y (omega arith)))

stop_from : (f : ℕ → ℕ → ℕ) (i n : ℕ) (xs : List ℕ) → ((k x : ℕ) → i + n ≤ k → f k x ≡ x) → done_from f i n xs ≡ by_place f i xs
stop_from f i zero xs same = sym (same_from f i xs (λ k x h. same k x (omega arith)))
stop_from f i (suc n) [] same = refl
stop_from f i (suc n) (x ∷ xs) same = ap (λ (l : List ℕ). f i x ∷ l) (stop_from f (suc i) n xs (λ k y h. same k y (omega arith)))

-- nothing changes from n on: with the first n places all are done
pub stop : (f : ℕ → ℕ → ℕ) (n : ℕ) (xs : List ℕ) → ((k x : ℕ) → n ≤ k → f k x ≡ x) → done f n xs ≡ by_place f 0 xs
stop f n xs same = stop_from f 0 n xs (λ k x h. same k x (omega arith))
