-- What is left of the first n elements of a list from a place on.
use Rattle.std.specs.Prelude.{◌≡◌, List, [], ◌∷◌, map, ℕ, ◌+◌, ◌≤◌, ◌<◌, length, take, drop, get_or}
use Rattle.std.proofs.Common.{sym, ◌∙◌, add-one, arith, drop_of_length-le, drop-cons, get_or-take, length-take-le}
use Rattle.std.proofs.lemmas.List.{length-map}

module _ {A : Type 0} (xs : List A) (n i : ℕ) (all : n ≤ length xs) where
  pub rest_cons : (d : A) → i < n → drop i (take n xs) ≡ get_or xs i d ∷ drop (i + 1) (take n xs)
  rest_cons d h =
      let long : length (take n xs) ≡ n = length-take-le n xs all in
      let here : i < length (take n xs) = omega arith in
      rw (add-one, drop-cons (take n xs) i d, get_or-take)

  pub rest_nil : n ≤ i → drop i (take n xs) ≡ []
  rest_nil h =
      let long : length (take n xs) ≡ n = length-take-le n xs all in
      drop_of_length-le (take n xs) {i = i} (omega arith)

-- an array's length, as it is known of a struct's field
pub unmapped : {X Y : Type 0} (f : X → Y) (l : List X) (n : ℕ) → length (map f l) ≡ n → length l ≡ n
unmapped f l n e = sym (length-map l f) ∙ e
