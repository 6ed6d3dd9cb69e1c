-- Believed: The hex field (document 01, 'The trace': hex is two lower-case digits).
use Rattle.std.specs.Prelude.{ℕ, ◌+◌, ◌-◌, ◌*◌, ◌/◌, ◌%◌, Bool, false, List, [], ◌∷◌, ltb, get_or}
use Rattle.law.specs.Words.{pick}
use Rattle.field.specs.Fields.{spells}

-- 0 to 9, then a to f
unfoldable pub hex_digit : ℕ → ℕ
hex_digit d = pick (ltb d 10) (48 + d) (87 + d)

unfoldable pub hex_field : ℕ → List ℕ
hex_field x = hex_digit (x / 16) ∷ hex_digit (x % 16) ∷ []

-- the number that a hex digit gives, and that two give
abbrev pub hex_value : ℕ → ℕ
hex_value b = pick (ltb b 97) (b - 48) (b - 87)

unfoldable pub byte_of : List ℕ → ℕ
byte_of w = hex_value (get_or w 0 0) * 16 + hex_value (get_or w 1 0)

-- a content that is a byte in hex, of those that a test allows
unfoldable pub is_byte_in : (ℕ → Bool) → List ℕ → Bool
is_byte_in allowed = spells (λ n. pick (ltb n 256) (allowed n) false) byte_of hex_field
