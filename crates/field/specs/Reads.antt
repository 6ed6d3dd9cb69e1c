-- Believed: What it is to read something at a place of a text: the spelling alone says it, no parser does.
use Rattle.std.specs.Prelude.{ℕ, ◌+◌, ◌≡◌, ◌⊎◌, List, ◌++◌, length, drop}

-- the bytes w stand in the text from the place `at` on
pub record Stands (text : List ℕ) (at : ℕ) (w : List ℕ) : Type 0 where
  pub rest : List ℕ
  pub is : drop at text ≡ w ++ rest

-- The answer r of a reader of values x that are spelled by `spell` and in the range Ok: if such a value's spelling stands here, that value
-- and the place after it; and no other answer than these and the bad one.
pub record Reads {A R : Type 0} (spell : A → List ℕ) (Ok : A → Type 0) (value : A → ℕ → R) (bad : R) (text : List ℕ) (at : ℕ) (r : R) : Type 0 where
  pub found : (x : A) → Ok x → Stands text at (spell x) → r ≡ value x (at + length (spell x))
  pub only : (r ≡ bad) ⊎ ((x : A) × Ok x × Stands text at (spell x) × (r ≡ value x (at + length (spell x))))
