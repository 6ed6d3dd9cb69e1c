-- What the readers of single fields promise, and the tables of the code that they use.
use Rattle.std.specs.Prelude.{◌*◌, ◌+◌, ◌-◌, ◌<◌, ◌≤◌, ℕ, ◌≡◌, Bool, true, List, [], ◌∷◌, eqb, leb, ltb, drop, Option, None, Some, Result}
use Rattle.law.specs.Words.{pick}
use Rattle.field.specs.declared.ending.FieldEnd.{FieldEnd}
use Rattle.field.specs.declared.Cursor.{Cursor}
use Rattle.field.specs.declared.BadField.{BadField}
use Rattle.field.specs.Reads.{Reads}
use Rattle.field.specs.Read.{Read, got, past, bad_field}
use Rattle.field.specs.Ends.{tab_byte, lf_byte}
use Rattle.field.specs.Fields.{fields_of, first_of}
use Rattle.field.specs.Decimal.{decimal, largest}
use Rattle.field.specs.Digit.{DigitOk, digit_field}
use Rattle.field.specs.Hex.{hex_field}

-- A reader of what a field begins with refuses with the field's own number n.
abbrev pub ReadsHex : ℕ → List ℕ → ℕ → Read ℕ → Type 0
ReadsHex n = Reads hex_field (λ x. x < 256) got (bad_field n)

abbrev pub ReadsDigit : ℕ → ℕ → ℕ → List ℕ → ℕ → Read ℕ → Type 0
ReadsDigit low high n = Reads digit_field (DigitOk low high) got (bad_field n)

abbrev pub ReadsWord : List ℕ → ℕ → List ℕ → ℕ → Result Cursor BadField → Type 0
ReadsWord w n = Reads {A = Unit {0}} (λ _. w) (λ _. Unit {0}) (λ _. past) (bad_field n)

-- the content of the field that starts at a place of a text
unfoldable pub content_at : List ℕ → ℕ → List ℕ
content_at text at = first_of (fields_of (drop at text))

-- a decimal is read by the field's whole content
abbrev pub ReadsDecimal : ℕ → List ℕ → ℕ → Read ℕ → Type 0
ReadsDecimal n text at = Reads decimal (λ x. (x ≤ largest) × (content_at text at ≡ decimal x)) got (bad_field n) text at

-- a content ends here: with a tab, the LF or the text's end
abbrev pub ends_here : List ℕ → Bool
ends_here [] = true
ends_here (b ∷ l) = pick (eqb b tab_byte) true (eqb b lf_byte)

abbrev pub end_byte : FieldEnd → ℕ
end_byte FieldEnd.Tab = tab_byte
end_byte FieldEnd.Lf = lf_byte

-- the number told where an end is not there: the next field's where the content ends here, the field's own where it goes on
abbrev pub end_number : ℕ → List ℕ → ℕ → ℕ
end_number n text at = pick (ends_here (drop at text)) (n + 1) n

abbrev pub ReadsEnd : FieldEnd → ℕ → List ℕ → ℕ → Result Cursor BadField → Type 0
ReadsEnd e n text at = Reads {A = Unit {0}} (λ _. end_byte e ∷ []) (λ _. Unit {0}) (λ _. past) (bad_field (end_number n text at)) text at

-- ---- the tables
-- the answer where no digit can be read on from l, of which v was read or nothing yet
abbrev pub stopped_at : ℕ → Option ℕ → ℕ → List ℕ → Read ℕ
stopped_at n None at l = bad_field n
stopped_at n (Some v) at l = pick (ends_here l) (got v at) (bad_field n)

-- the number v with the digit b after it
abbrev pub digit_on : ℕ → ℕ → Option ℕ
digit_on v b =
    pick (ltb b 48) None
    (pick (ltb 57 b) None
    (pick (ltb largest (v * 10 + (b - 48))) None (Some (v * 10 + (b - 48)))))

-- the same after what was read, which is nothing yet or a number; a leading zero takes no further digit
abbrev pub push_of : Option ℕ → ℕ → Option ℕ
push_of None b = digit_on 0 b
push_of (Some v) b = pick (eqb v 0) None (digit_on v b)

-- what the byte b stands for as a hex digit
abbrev pub nibble_of : ℕ → Option ℕ
nibble_of b =
    pick (ltb b 48) None
    (pick (leb b 57) (Some (b - 48))
    (pick (ltb b 97) None (pick (leb b 102) (Some (b - 87)) None)))

-- the same as a number, of the digits 0 to 9 alone and of the letters a to f alone; 16 for any other byte
abbrev pub digit_value : ℕ → ℕ
digit_value b = pick (ltb b 48) 16 (pick (leb b 57) (b - 48) 16)

abbrev pub letter_value : ℕ → ℕ
letter_value b = pick (ltb b 97) 16 (pick (leb b 102) (b - 87) 16)
