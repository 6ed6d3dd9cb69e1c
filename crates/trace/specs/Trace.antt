-- A printer takes a text and the dumps, each there or not, and an output, and gives back how many bytes of the output it put. These speak of the calls that one may make.
use Rattle.std.specs.Prelude.{ℕ, ◌+◌, ◌≤◌, List, length, Option, IfSome}
use Rattle.std.specs.Borrow.{Bor, MutBor}
use Rattle.record.specs.declared.Chip.{Chip}
use Rattle.record.specs.declared.Chip.TheVariants.{Flash, Eeprom}
use Rattle.image.specs.Images.{kept_bytes}
use Rattle.text.specs.Texts.{text_limit}

-- which results a printer's call may have: by its arguments the number that it gives back, and the output as it is left
abbrev pub Calls : Type 1
Calls = Bor (List ℕ) → Option (Bor (List ℕ)) → Option (Bor (List ℕ)) → MutBor (List ℕ) → ℕ → MutBor (List ℕ) → Type 0

-- a dump is read no further than one byte behind what is kept of its chip
abbrev pub Read : Chip → Option (Bor (List ℕ)) → Type 0
Read chip dump = IfSome dump (λ bytes. length bytes.now ≤ kept_bytes chip + 1)

-- the printer was called, with a text and dumps of which no more was read than tells that they are too long
abbrev pub Called : Calls → Type 0
Called calls = (text : Bor (List ℕ)) × (flash eeprom : Option (Bor (List ℕ))) × (out left : MutBor (List ℕ)) × (n : ℕ)
    × (length text.now ≤ text_limit + 1) × Read Flash flash × Read Eeprom eeprom × calls text flash eeprom out n left
