-- Believed: A number as the lent buffers hold it (document 01, 'Replies and stopping'; document 02, request 1/12).
use Rattle.std.specs.Prelude.{ℕ, ◌/◌, ◌%◌, List, [], ◌∷◌}

-- 'four bytes each, low byte first'
abbrev pub word : ℕ → List ℕ
word a = (a % 256) ∷ (a / 256 % 256) ∷ (a / 65536 % 256) ∷ (a / 16777216 % 256) ∷ []
