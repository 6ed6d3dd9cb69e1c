-- Any two answers that the promise of a reader admits are equal.
use Prim.Native.Nat.{ℕ}
use mathlib.Core.Path.{◌≡◌}
use mathlib.Core.List.{List}
use Rattle.std.specs.Prelude.{Result}
use Rattle.field.specs.declared.Cursor.{Cursor}
use Rattle.field.specs.declared.BadField.{BadField}
use Rattle.field.specs.declared.ending.FieldEnd.{FieldEnd}
use Rattle.field.specs.Read.{Read}
use Rattle.field.specs.Readers.{ReadsDecimal, ReadsHex, ReadsDigit, ReadsWord, ReadsEnd}
use Rattle.field.proofs.Reading.{determined}
use Rattle.field.proofs.Answers.{tells_got, tells_past}

module _ (n : ℕ) (text : List ℕ) (at : ℕ) where
  pub decimal_determined : (r s : Read ℕ) → ReadsDecimal n text at r → ReadsDecimal n text at s → r ≡ s
  decimal_determined = determined tells_got

  pub hex_determined : (r s : Read ℕ) → ReadsHex n text at r → ReadsHex n text at s → r ≡ s
  hex_determined = determined tells_got

  pub word_determined : (w : List ℕ) (r s : Result Cursor BadField) → ReadsWord w n text at r → ReadsWord w n text at s → r ≡ s
  word_determined w = determined tells_past

  pub digit_determined : (low high : ℕ) (r s : Read ℕ) → ReadsDigit low high n text at r → ReadsDigit low high n text at s → r ≡ s
  digit_determined low high = determined tells_got

  pub end_determined : (e : FieldEnd) (r s : Result Cursor BadField) → ReadsEnd e n text at r → ReadsEnd e n text at s → r ≡ s
  end_determined e = determined tells_past
