-- Believed: What a reader answers: a value and the place after it, that place alone, or the number of the bad field.
use Rattle.std.specs.Prelude.{ℕ, Result, Ok, Err}
use Rattle.field.specs.declared.Cursor.{Cursor}
use Rattle.field.specs.declared.BadField.{BadField}

abbrev pub Read : Type 0 → Type 0
Read T = Result (T × Cursor) BadField

abbrev pub got : {T : Type 0} → T → ℕ → Read T
got x p = Ok (x, record { at = p })

abbrev pub past : ℕ → Result Cursor BadField
past p = Ok (record { at = p })

abbrev pub bad_field : {T : Type 0} → ℕ → Result T BadField
bad_field n = Err (record { 0 = n })
