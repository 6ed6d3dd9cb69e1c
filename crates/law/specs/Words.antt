-- Believed: The words that the rules are said in: a choice by a test, lists by a test, a list changed place by place.
use Rattle.std.specs.Prelude.{Bool, false, true, List, [], ◌∷◌, ◌≤◌, suc, ℕ}

-- the first where the test holds, else the second
abbrev pub pick : {A : Type 0} → Bool → A → A → A
pick true a b = a
pick false a b = b

unfoldable pub keep : {A : Type 0} → Bool → A → List A → List A
keep true a l = a ∷ l
keep false a l = l

-- the elements that pass the test, in their order
unfoldable pub filter : {A : Type 0} → (A → Bool) → List A → List A
filter q [] = []
filter q (a ∷ l) = keep (q a) a (filter q l)

unfoldable pub All : {A : Type 0} → (A → Type 0) → List A → Type 0
All P [] = Unit {0}
All P (a ∷ l) = P a × All P l

-- no later element has a smaller number than an earlier one
unfoldable pub Rising : {A : Type 0} → (A → ℕ) → List A → Type 0
Rising f [] = Unit {0}
Rising f (a ∷ l) = All (λ b. f a ≤ f b) l × Rising f l

-- f gets the place and the element
abbrev pub by_place : (ℕ → ℕ → ℕ) → ℕ → List ℕ → List ℕ
by_place f i [] = []
by_place f i (x ∷ xs) = f i x ∷ by_place f (suc i) xs
