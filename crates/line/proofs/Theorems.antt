-- What follows of the spellings: one spelling for each record and board, one record and board for each spelling, and what is written reads back.
use Prim.Native.Nat.{ℕ, ◌+◌, ◌-◌, ◌%◌, ◌/◌, ◌≤◌, ◌<◌}
use native.Mathlib.Omega.{arith}
use native.Mathlib.Nat.{add-sub_cancel_left}
use mathlib.Core.Path.{◌≡◌, refl, sym, ap, ◌∙◌}
use mathlib.Core.Logic.{◌⊎◌, ◌↔◌, inl, inr, ⊎_elim}
use mathlib.Core.List.{List, ◌∷◌, ◌++◌, append_assoc}
use lib.ListN.{length, drop, get_or}
use lib.Seq.{drop-drop, drop-append_seam}
use lib.Dec.{eqb}
use borrow.Author.Tests.{eqb-true, eqb-false}
use Rattle.law.specs.Choice.{split, lt_or_le}
use Rattle.record.specs.Answers.{answer_number}
use Rattle.record.specs.declared.Record.{Record}
use Rattle.record.specs.declared.Board.{Board}
use Rattle.field.specs.Decimal.{decimal, digits_value}
use Rattle.field.specs.Ends.{tab_byte, tab}
use Rattle.field.specs.Fields.{fields_of, first_of}
use Rattle.field.specs.Hex.{hex_field}
use Rattle.field.specs.Digit.{digit_field}
use Rattle.field.specs.Reads.{Stands}
use Rattle.field.proofs.Reading.{by_inverse, determined}
use Rattle.field.proofs.FieldLaws.{fields_plain}
use Rattle.field.proofs.DecimalLaws.{plain_decimal, value_decimal}
use Rattle.field.proofs.HexLaws.{unhex, unhex_is}
use Rattle.line.specs.Output.{Wrote}
use Rattle.line.specs.Records.{spelled_event, spelled, RecordOk, ReadsRecord, record_answer}
use Rattle.line.specs.Boards.{spelled_board, spelled_places, BoardOk, ReadsBoard, WroteBoard, board_answer}
use Rattle.field.proofs.Answers.{tells_got}
use Rattle.line.proofs.RecordLaws.{event_at, event_law}
use Rattle.line.proofs.Whole.{paper_one, wrote_determined, spelled_if_accepted, accepted_if_spelled, reads_back, same_bytes}
use Rattle.field.specs.Read.{Read, got}
use Rattle.std.specs.Prelude.{Result, Ok}
use Rattle.line.specs.declared.output.WriteError.{WriteError}

-- ---- records
-- any two answers that the promise of `read_record` admits are equal
pub record_determined : (text : List ℕ) (at : ℕ) (r r' : Read Record) → ReadsRecord text at r → ReadsRecord text at r' → r ≡ r'
record_determined text at = determined tells_got

-- the record that a line spells, found from its bytes
unfoldable pub record_at : List ℕ → Record
record_at l = record { stamp = digits_value 0 (first_of (fields_of l)); event = event_at (drop (length (first_of (fields_of l)) + 1) l) }

pub record_law : (r : Record) → RecordOk r → (rest : List ℕ) → record_at (spelled r ++ rest) ≡ r
unfolding record_at spelled
record_law r o rest = λ i. record { stamp = stamps i; event = events i }
  where
    bytes : spelled r ++ rest ≡ decimal r.stamp ++ (tab_byte ∷ (spelled_event r.event ++ rest))
    bytes = append_assoc (decimal r.stamp) (tab ++ spelled_event r.event) rest

    first : first_of (fields_of (spelled r ++ rest)) ≡ decimal r.stamp
    first = ap (λ (l : List ℕ). first_of (fields_of l)) bytes ∙ ap first_of (fields_plain (decimal r.stamp) (tab_byte ∷ (spelled_event r.event ++ rest)) (plain_decimal r.stamp) refl)

    stamps : digits_value 0 (first_of (fields_of (spelled r ++ rest))) ≡ r.stamp
    stamps = ap (digits_value 0) first ∙ value_decimal r.stamp

    past : drop (length (first_of (fields_of (spelled r ++ rest))) + 1) (spelled r ++ rest) ≡ spelled_event r.event ++ rest
    past =
        (λ i. drop (length (first i) + 1) (bytes i))
        ∙ sym (drop-drop 1 (length (decimal r.stamp)) (decimal r.stamp ++ (tab_byte ∷ (spelled_event r.event ++ rest))))
        ∙ ap (λ (l : List ℕ). drop 1 l) (drop-append_seam (decimal r.stamp) (tab_byte ∷ (spelled_event r.event ++ rest)))

    events : event_at (drop (length (first_of (fields_of (spelled r ++ rest))) + 1) (spelled r ++ rest)) ≡ r.event
    events = ap event_at past ∙ event_law r.event o.1 rest

-- at one place of a text stands at most one record
pub record_same : (text : List ℕ) (at : ℕ) (r r' : Record) → RecordOk r → RecordOk r' → Stands text at (spelled r) → Stands text at (spelled r') → r ≡ r'
record_same text at r r' o o' s s' = by_inverse spelled RecordOk record_at record_law r o s r' o' s'

-- a line, whatever comes after it, spells one record: the spelling is one-to-one
pub one_record : (r r' : Record) (rest rest' : List ℕ) → RecordOk r → RecordOk r' → spelled r ++ rest ≡ spelled r' ++ rest' → r ≡ r'
one_record r r' rest rest' o o' e = record_same (spelled r ++ rest) 0 r r' o o' (record { rest = rest; is = refl }) (record { rest = rest'; is = e })

-- a line is accepted as r exactly when it is r's spelling
module _ (line : List ℕ) (a : Read Record) (r : Record) (d : ReadsRecord line 0 a) where
  pub record_spelled : a ≡ got r (length line) → line ≡ spelled r
  record_spelled e = spelled_if_accepted tells_got line a r d e

  pub record_accepted : RecordOk r → line ≡ spelled r → a ≡ got r (length line)
  record_accepted o e = accepted_if_spelled tells_got line a r o d e

-- a record that was written reads back as itself
pub record_reads_back : (r : Record) (old new : List ℕ) (n : ℕ) (a : Read Record) → RecordOk r → Wrote (spelled r) old new (Ok n) → ReadsRecord new 0 a → a ≡ got r n
record_reads_back r old new n a o w d = reads_back tells_got r old new n a o w d

-- a record's line that was read and then written gives the same bytes
pub record_same_bytes : (line old new : List ℕ) (a : Read Record) (r : Record) (w : Result ℕ WriteError) → ReadsRecord line 0 a → a ≡ got r (length line)
    → Wrote (spelled r) old new w → length line ≤ length old → new ≡ line ++ drop (length line) old
record_same_bytes line old new a r w d e p h = same_bytes tells_got line old new a r w d e p h

-- by the paper's numbers: 3 exactly where no record's line stands
pub record_three : (text : List ℕ) (at : ℕ) (a : Read Record) → ReadsRecord text at a → (answer_number (record_answer a) ≡ 3) ↔ ((r : Record) → RecordOk r → Stands text at (spelled r) → ⊥)
record_three text at a d = (
  (λ h r o s. let e = sym h ∙ ap (λ (x : Read Record). answer_number (record_answer x)) (d.found r o s) in omega arith),
  λ none. ⊎_elim (λ e. ap (λ (x : Read Record). answer_number (record_answer x)) e) (λ z. absurd (none z.0 z.1 z.2)) d.only,
)

-- ---- boards
pub board_determined : (text : List ℕ) (at : ℕ) (r r' : Read Board) → ReadsBoard text at r → ReadsBoard text at r' → r ≡ r'
board_determined text at = determined tells_got

-- the board that a line spells, found from its bytes
pub board_at : List ℕ → Board
board_at l = record { status = unhex (get_or l 6 0) (get_or l 7 0); sector = get_or l 9 0 - 48; address = get_or l 11 0 - 48 }

pub board_law : (b : Board) → BoardOk b → (rest : List ℕ) → board_at (spelled_board b ++ rest) ≡ b
unfolding board_at spelled_board spelled_places hex_field digit_field
board_law b o rest = λ i. record { status = unhex_is b.status o.0.0 i; sector = add-sub_cancel_left 48 b.sector i; address = add-sub_cancel_left 48 b.address i }

pub board_same : (text : List ℕ) (at : ℕ) (b b' : Board) → BoardOk b → BoardOk b' → Stands text at (spelled_board b) → Stands text at (spelled_board b') → b ≡ b'
board_same text at b b' o o' s s' = by_inverse spelled_board BoardOk board_at board_law b o s b' o' s'

pub one_board : (b b' : Board) (rest rest' : List ℕ) → BoardOk b → BoardOk b' → spelled_board b ++ rest ≡ spelled_board b' ++ rest' → b ≡ b'
one_board b b' rest rest' o o' e = board_same (spelled_board b ++ rest) 0 b b' o o' (record { rest = rest; is = refl }) (record { rest = rest'; is = e })

module _ (line : List ℕ) (a : Read Board) (b : Board) (d : ReadsBoard line 0 a) where
  pub board_spelled : a ≡ got b (length line) → line ≡ spelled_board b
  board_spelled e = spelled_if_accepted tells_got line a b d e

  pub board_accepted : BoardOk b → line ≡ spelled_board b → a ≡ got b (length line)
  board_accepted o e = accepted_if_spelled tells_got line a b o d e

-- a board that was written reads back as itself
pub board_reads_back : (b : Board) (old new : List ℕ) (n : ℕ) (a : Read Board) → BoardOk b → WroteBoard b old new (Ok n) → ReadsBoard new 0 a → a ≡ got b n
board_reads_back b old new n a o w d = reads_back tells_got b old new n a o (w.in_range o) d

pub board_same_bytes : (line old new : List ℕ) (a : Read Board) (b : Board) (w : Result ℕ WriteError) → ReadsBoard line 0 a → a ≡ got b (length line)
    → BoardOk b → WroteBoard b old new w → length line ≤ length old → new ≡ line ++ drop (length line) old
board_same_bytes line old new a b w d e o p h = same_bytes tells_got line old new a b w d e (p.in_range o) h

-- it holds or it does not
abbrev pub Known : Type 0 → Type 0
Known P = P ⊎ (P → ⊥)

pub and_known : {P Q : Type 0} → Known P → Known Q → Known (P × Q)
and_known p q = ⊎_elim (λ x. ⊎_elim (λ y. inl (x, y)) (λ n. inr (λ z. n z.1)) q) (λ n. inr (λ z. n z.0)) p

all_known : {P Q R : Type 0} → Known P → Known Q → Known R → Known (P × Q × R)
all_known p q r = ⊎_elim (λ x. ⊎_elim (λ y. ⊎_elim (λ z. inl (x, y, z)) (λ n. inr (λ k. n k.2)) r) (λ n. inr (λ k. n k.1)) q) (λ n. inr (λ k. n k.0)) p

eq_known : (m n : ℕ) → Known (m ≡ n)
eq_known m n = split (eqb m n) (λ e. inl (eqb-true m n e)) (λ e. inr (eqb-false m n e))

pub le_known : (m n : ℕ) → Known (m ≤ n)
le_known m n = ⊎_elim (λ (h : n < m). inr (λ (l : m ≤ n). omega arith)) inl (lt_or_le n m)

pub lt_known : (m n : ℕ) → Known (m < n)
lt_known m n = ⊎_elim inl (λ (h : n ≤ m). inr (λ (l : m < n). omega arith)) (lt_or_le m n)

-- a board is in range or not
pub board_known : (b : Board) → Known (BoardOk b)
board_known b =
    and_known (all_known (lt_known b.status 256) (eq_known (b.status % 4) 0) (eq_known (b.status / 16 % 8) 0))
    (and_known (all_known (le_known b.sector 9) (le_known 1 b.sector) (le_known b.sector 4))
    (all_known (le_known b.address 9) (le_known 0 b.address) (le_known b.address 7)))

-- what `write_board` promises is determined
pub write_board_determined : (b : Board) (old new new' : List ℕ) (r r' : Result ℕ WriteError) → WroteBoard b old new r → WroteBoard b old new' r' → (r ≡ r') × (new ≡ new')
write_board_determined b old new new' r r' p q =
    ⊎_elim (λ (o : BoardOk b). wrote_determined (spelled_board b) old new new' r r' (p.in_range o) (q.in_range o))
    (λ (n : BoardOk b → ⊥).
    let x = p.out_of_range n in
    let y = q.out_of_range n in
    (paper_one r r' (x.0 ∙ sym y.0), x.1 ∙ sym y.1))
    (board_known b)

-- 3 exactly where no board's line stands
pub board_three : (text : List ℕ) (at : ℕ) (a : Read Board) → ReadsBoard text at a → (answer_number (board_answer a) ≡ 3) ↔ ((b : Board) → BoardOk b → Stands text at (spelled_board b) → ⊥)
board_three text at a d = (
  (λ h b o s. let e = sym h ∙ ap (λ (x : Read Board). answer_number (board_answer x)) (d.found b o s) in omega arith),
  λ none. ⊎_elim (λ e. ap (λ (x : Read Board). answer_number (board_answer x)) e) (λ z. absurd (none z.0 z.1 z.2)) d.only,
)
