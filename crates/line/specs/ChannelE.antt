-- Believed: The events of channel E (document 01, 'The trace').
use Rattle.std.specs.Prelude.{ℕ, ◌<◌, Bool, true, false, List, [], ◌∷◌, ◌++◌}
use Rattle.record.specs.declared.EepromEvent.{EepromEvent}
use Rattle.record.specs.declared.EepromEvent.TheVariants.{Start, Byte, Cut, Stop, End}
use Rattle.field.specs.Ends.{tab, lf}
use Rattle.field.specs.Hex.{hex_field}
use Rattle.line.specs.Words.{word_sta, word_b, word_cut, word_sto, word_end}

-- 0 acknowledged, 1 not
abbrev pub bit_digit : Bool → List ℕ
bit_digit false = 48 ∷ []
bit_digit true = 49 ∷ []

-- from the event's word to the line's end
unfoldable pub spelled_eeprom : EepromEvent → List ℕ
spelled_eeprom Start = word_sta ++ lf
spelled_eeprom (Byte b a) = word_b ++ (tab ++ (hex_field b ++ (tab ++ (bit_digit a ++ lf))))
spelled_eeprom Cut = word_cut ++ lf
spelled_eeprom Stop = word_sto ++ lf
spelled_eeprom End = word_end ++ lf

-- bytes are bytes: the types give it
abbrev pub EepromOk : EepromEvent → Type 0
EepromOk Start = Unit {0}
EepromOk (Byte b a) = b < 256
EepromOk Cut = Unit {0}
EepromOk Stop = Unit {0}
EepromOk End = Unit {0}
