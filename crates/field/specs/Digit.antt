-- Believed: One digit in a range.
use Rattle.std.specs.Prelude.{ℕ, ◌+◌, ◌-◌, ◌≤◌, Bool, false, List, [], ◌∷◌, leb, get_or}
use Rattle.law.specs.Words.{pick}
use Rattle.field.specs.Fields.{spells}

unfoldable pub digit_field : ℕ → List ℕ
digit_field d = (48 + d) ∷ []

abbrev pub DigitOk : ℕ → ℕ → ℕ → Type 0
DigitOk low high d = (d ≤ 9) × (low ≤ d) × (d ≤ high)

-- a content that is one digit of the range
unfoldable pub is_digit : ℕ → ℕ → List ℕ → Bool
is_digit low high = spells (λ d. pick (leb d 9) (pick (leb low d) (leb d high) false) false) (λ w. get_or w 0 0 - 48) digit_field
