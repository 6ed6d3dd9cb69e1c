-- Lines typed wrong: that none of them is a record's or the board's, and the number of each one's first bad field, computed from the definitions alone.
use Prim.Native.Nat.{ℕ, ◌≤◌, ◌<◌}
use native.Mathlib.Omega.{arith}
use mathlib.Core.Path.{◌≡◌, refl, sym, ap, ◌∙◌}
use mathlib.Core.Bool.{Bool, true, false}
use mathlib.Core.List.{List, [], ◌∷◌, ◌++◌}
use lib.Dec.{eqb, leb}
use lib.ListN.{length, take, drop}
use borrow.Author.Tests.{eq-eqb, le-leb}
use Rattle.law.specs.Choice.{true_not_false}
use Rattle.law.specs.Words.{pick, All}
use Rattle.record.specs.declared.Record.{Record}
use Rattle.record.specs.declared.Board.{Board}
use Rattle.field.specs.Ends.{tab, lf}
use Rattle.field.specs.Fields.{fields_of, first_bad, same, one_of}
use Rattle.field.specs.Decimal.{largest, digits_in, decimal, digits_value, is_decimal}
use Rattle.field.specs.Hex.{hex_digit, hex_field, byte_of, is_byte_in}
use Rattle.field.specs.Digit.{digit_field, is_digit}
use Rattle.field.proofs.DigitLaws.{tests_digit}
use Rattle.field.proofs.HexLaws.{unhex, digit_of}
use Rattle.line.specs.Boards.{spelled_places, spelled_board, BoardOk}
use Rattle.line.specs.ChannelF.{spelled_flash}
use Rattle.line.specs.ChannelE.{spelled_eeprom}
use Rattle.line.specs.ChannelL.{spelled_line}
use Rattle.line.specs.Places.{is_flash_event, is_eeprom_event, is_line_event, is_channel, is_board, is_status, first_bad_field, first_bad_of_board}
use Rattle.line.specs.Records.{spelled_event, spelled, RecordOk}
use Rattle.line.specs.Words.{word_board}
use Rattle.line.specs.TypedWrong.{typed_wrong, typed_wrong_first}
use Rattle.line.proofs.BoardLaws.{tests_status}
use Rattle.line.proofs.FlashLaws.{flash_at}
use Rattle.line.proofs.EepromLaws.{eeprom_at}
use Rattle.line.proofs.LineLaws.{line_at}
use Rattle.line.proofs.RecordLaws.{event_at}
use Rattle.line.proofs.Theorems.{record_at, record_law}

-- whether bytes stand at the front of a list
unfoldable begins : List ℕ → List ℕ → Bool
begins [] l = true
begins (a ∷ w) [] = false
begins (a ∷ w) (b ∷ l) = pick (eqb a b) (begins w l) false

begins_front : (w rest : List ℕ) → begins w (w ++ rest) ≡ true
unfolding begins
begins_front [] rest = refl
begins_front (a ∷ w) rest = simp (eq-eqb a a refl, begins_front w rest)

-- whether a line begins as the record that its bytes would spell, and that one's stamp is in range
abbrev is_record : List ℕ → Bool
is_record l = pick (leb (record_at l).stamp largest) (begins (spelled (record_at l)) l) false

no_record : (l : List ℕ) → is_record l ≡ false → (r : Record) → RecordOk r → (rest : List ℕ) → l ≡ spelled r ++ rest → ⊥
no_record l e r o rest q =
    let same : record_at l ≡ r = ap record_at q ∙ record_law r o rest in
    let right : pick (leb r.stamp largest) (begins (spelled r) (spelled r ++ rest)) false ≡ true = simp (le-leb r.stamp largest o.0, begins_front (spelled r) rest) in
    true_not_false (sym right ∙ (λ i. pick (leb (sym same i).stamp largest) (begins (spelled (sym same i)) (sym q i)) false) ∙ e)

-- whether a line begins as a board's whose numbers are in range: its fields and their ends stand at fixed places
abbrev is_board_line : List ℕ → Bool
is_board_line l =
    pick (begins (word_board ++ tab) l)
    (pick (is_status (take 2 (drop 6 l)))
    (pick (begins tab (drop 8 l))
    (pick (is_digit 1 4 (take 1 (drop 9 l)))
    (pick (begins tab (drop 10 l))
    (pick (is_digit 0 7 (take 1 (drop 11 l))) (begins lf (drop 12 l)) false) false) false) false) false) false

board_begins : (b : Board) → BoardOk b → (rest : List ℕ) → is_board_line (spelled_board b ++ rest) ≡ true
unfolding begins spelled_board spelled_places hex_field digit_field
board_begins b o rest = simp (tests_status.yes b.status o.0, (tests_digit 1 4).yes b.sector o.1.0, (tests_digit 0 7).yes b.address o.1.1)

no_board_lem : (l : List ℕ) → is_board_line l ≡ false → (b : Board) → BoardOk b → (rest : List ℕ) → l ≡ spelled_board b ++ rest → ⊥
no_board_lem l e b o rest q = true_not_false (sym (board_begins b o rest) ∙ ap is_board_line (sym q) ∙ e)

-- no record's line stands at the front of l, which is short, and k is the number of its first bad field
pub record Mistyped (l : List ℕ) (k : ℕ) : Type 0 where
  pub number : first_bad_field l ≡ k
  pub none : (r : Record) → RecordOk r → (rest : List ℕ) → l ≡ spelled r ++ rest → ⊥
  pub some : 0 < length l
  pub short : length l ≤ 100

-- the same of the board's line
pub record MistypedFirst (text : List ℕ) (k : ℕ) : Type 0 where
  pub number : first_bad_of_board text ≡ k
  pub none : (b : Board) → BoardOk b → (rest : List ℕ) → text ≡ spelled_board b ++ rest → ⊥
  pub short : length text ≤ 100

mistyped : (l : List ℕ) (k : ℕ) → first_bad_field l ≡ k → is_record l ≡ false → 0 < length l → length l ≤ 100 → Mistyped l k
mistyped l k e n h m = record { number = e; none = no_record l n; some = h; short = m }

mistyped_first : (l : List ℕ) (k : ℕ) → first_bad_of_board l ≡ k → is_board_line l ≡ false → length l ≤ 100 → MistypedFirst l k
mistyped_first l k e n m = record { number = e; none = no_board_lem l n; short = m }

pub typed_wrong_lem : All (λ (z : List ℕ × ℕ). Mistyped z.0 z.1) typed_wrong
unfolding All begins first_bad_field first_bad fields_of same one_of is_decimal digits_value decimal digits_in is_channel is_flash_event is_eeprom_event is_line_event is_byte_in byte_of hex_field hex_digit is_digit digit_field spelled spelled_event spelled_flash spelled_eeprom spelled_line record_at event_at flash_at eeprom_at line_at unhex digit_of
typed_wrong_lem = (mistyped _ _ refl refl (omega arith) (omega arith), (mistyped _ _ refl refl (omega arith) (omega arith), (mistyped _ _ refl refl (omega arith) (omega arith), (mistyped _ _ refl refl (omega arith) (omega arith), (mistyped _ _ refl refl (omega arith) (omega arith), (mistyped _ _ refl refl (omega arith) (omega arith), (mistyped _ _ refl refl (omega arith) (omega arith), (mistyped _ _ refl refl (omega arith) (omega arith), (mistyped _ _ refl refl (omega arith) (omega arith), (mistyped _ _ refl refl (omega arith) (omega arith), (mistyped _ _ refl refl (omega arith) (omega arith), (mistyped _ _ refl refl (omega arith) (omega arith), (mistyped _ _ refl refl (omega arith) (omega arith), (mistyped _ _ refl refl (omega arith) (omega arith), (mistyped _ _ refl refl (omega arith) (omega arith), (mistyped _ _ refl refl (omega arith) (omega arith), (mistyped _ _ refl refl (omega arith) (omega arith), (mistyped _ _ refl refl (omega arith) (omega arith), (mistyped _ _ refl refl (omega arith) (omega arith), (mistyped _ _ refl refl (omega arith) (omega arith), (mistyped _ _ refl refl (omega arith) (omega arith), (mistyped _ _ refl refl (omega arith) (omega arith), (mistyped _ _ refl refl (omega arith) (omega arith), tt)))))))))))))))))))))))

pub typed_wrong_first_lem : All (λ (z : List ℕ × ℕ). MistypedFirst z.0 z.1) typed_wrong_first
unfolding All begins first_bad_of_board first_bad fields_of same one_of is_board is_status is_byte_in byte_of hex_field hex_digit is_digit digit_field
typed_wrong_first_lem = (mistyped_first _ _ refl refl (omega arith), (mistyped_first _ _ refl refl (omega arith), (mistyped_first _ _ refl refl (omega arith), (mistyped_first _ _ refl refl (omega arith), (mistyped_first _ _ refl refl (omega arith), (mistyped_first _ _ refl refl (omega arith), (mistyped_first _ _ refl refl (omega arith), (mistyped_first _ _ refl refl (omega arith), tt))))))))
