-- What the readers of a level line's parts promise.
use Rattle.std.specs.Prelude.{ℕ, Bool, Option, Some, None, List, [], ◌∷◌}
use Rattle.field.specs.declared.Cursor.{Cursor}
use Rattle.field.specs.Reads.{Reads}
use Rattle.level.specs.declared.Spi.{Spi}
use Rattle.level.specs.declared.Wires.{Wires}
use Rattle.level.specs.Spelled.{level_digit, spelled_spi, spelled_wires}

-- a digit and the byte that ends its field
unfoldable pub spelled_flag : ℕ → Bool → List ℕ
spelled_flag end a = level_digit a ∷ end ∷ []

abbrev pub ReadsFlag : ℕ → List ℕ → ℕ → Option (Bool × Cursor) → Type 0
ReadsFlag end = Reads (spelled_flag end) (λ _. Unit {0}) (λ a p. Some (a, record { at = p })) None

abbrev pub ReadsSpi : List ℕ → ℕ → Option (Spi × Cursor) → Type 0
ReadsSpi = Reads spelled_spi (λ _. Unit {0}) (λ x p. Some (x, record { at = p })) None

abbrev pub ReadsWires : List ℕ → ℕ → Option (Wires × Cursor) → Type 0
ReadsWires = Reads spelled_wires (λ _. Unit {0}) (λ x p. Some (x, record { at = p })) None
