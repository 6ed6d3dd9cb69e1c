-- Believed: The decimal field (document 01, 'The trace': decimals have no leading zero; a stamp is 0 to 4,294,967,295).
use Rattle.std.specs.Prelude.{ℕ, suc, zero, ◌+◌, ◌-◌, ◌*◌, ◌/◌, ◌%◌, Bool, true, false, List, [], ◌∷◌, ◌++◌, ltb, leb}
use Rattle.field.specs.Fields.{spells}

abbrev pub largest : ℕ
largest = 4294967295

-- the digits of n, at most as many as the first number says
unfoldable pub digits_in : ℕ → ℕ → List ℕ
digits_in zero n = []
digits_in (suc k) n = elim (ltb n 10) [ true ↦ (48 + n) ∷ [] | false ↦ digits_in k (n / 10) ++ ((48 + n % 10) ∷ []) ]

-- n in decimal, with no leading zero: n + 1 digits are always enough
unfoldable pub decimal : ℕ → List ℕ
decimal n = digits_in (suc n) n

-- the number that digits give, after v
unfoldable pub digits_value : ℕ → List ℕ → ℕ
digits_value v [] = v
digits_value v (b ∷ w) = digits_value (v * 10 + (b - 48)) w

-- a content that is a decimal in range
unfoldable pub is_decimal : List ℕ → Bool
is_decimal = spells (λ n. leb n largest) (digits_value 0) decimal
