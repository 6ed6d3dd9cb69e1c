-- Believed: A level line (document 02, request 4/12: 'each line has a stamp, then CS, SCK, SI, SO, HOLD, SCL, SDA, each 0 or 1'); fields, stamp and LF as in a trace.
use Rattle.std.specs.Prelude.{ℕ, ◌≤◌, Bool, true, false, Option, Some, None, List, [], ◌∷◌, ◌++◌}
use Rattle.field.specs.Ends.{tab_byte, lf_byte, tab}
use Rattle.field.specs.Decimal.{largest, decimal}
use Rattle.field.specs.declared.Cursor.{Cursor}
use Rattle.field.specs.Reads.{Reads}
use Rattle.level.specs.declared.Spi.{Spi}
use Rattle.level.specs.declared.Wires.{Wires}
use Rattle.level.specs.declared.Level.{Level}

-- the digit of a level
abbrev pub level_digit : Bool → ℕ
level_digit false = 48
level_digit true = 49

-- the flash's lines, each with its tab
unfoldable pub spelled_spi : Spi → List ℕ
spelled_spi s =
    level_digit s.cs ∷ tab_byte ∷ level_digit s.sck ∷ tab_byte ∷ level_digit s.si ∷ tab_byte ∷ level_digit s.so ∷ tab_byte ∷ level_digit s.hold ∷ tab_byte ∷ []

-- the two wires, to the line's end
unfoldable pub spelled_wires : Wires → List ℕ
spelled_wires w = level_digit w.scl ∷ tab_byte ∷ level_digit w.sda ∷ lf_byte ∷ []

-- the one spelling of a level line, with the LF
unfoldable pub spelled_level : Level → List ℕ
spelled_level l = decimal l.stamp ++ (tab ++ (spelled_spi l.spi ++ spelled_wires l.wires))

-- what the type gives
abbrev pub LevelOk : Level → Type 0
LevelOk l = l.stamp ≤ largest

-- what the reader of a level line promises
abbrev pub ReadsLevel : List ℕ → ℕ → Option (Level × Cursor) → Type 0
ReadsLevel = Reads spelled_level LevelOk (λ x p. Some (x, record { at = p })) None
