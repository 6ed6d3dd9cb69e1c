-- Believed: A list in the order of its elements' numbers, elements of one number in the order that they had. Nothing here computes it.
use Rattle.std.specs.Prelude.{◌≡◌, List, ℕ, eqb}
use Rattle.law.specs.Words.{filter, Rising}

module _ {A : Type 0} (number : A → ℕ) where
  -- the elements of one number
  abbrev pub numbered : ℕ → List A → List A
  numbered n l = filter (λ (a : A). eqb (number a) n) l

  -- m is xs in order
  pub record InOrder (xs m : List A) : Type 0 where
    pub rising : Rising number m
    pub keeps : (n : ℕ) → numbered n m ≡ numbered n xs
