-- Believed: A text that can be replayed, and the first bad line of one that can't (document 01, 'The trace', refusals 2 to 5; document 02, request 2/12).
use Rattle.std.specs.Prelude.{ℕ, ◌+◌, ◌≤◌, ◌<◌, ◌≡◌, ◌⊎◌, Result, Ok, Err, None, List, [], ◌∷◌, ◌++◌, length}
use Rattle.law.specs.Words.{All, Rising}
use Rattle.record.specs.declared.Record.{Record}
use Rattle.record.specs.declared.Board.{Board}
use Rattle.record.specs.declared.Answer.{Answer}
use Rattle.record.specs.declared.Answer.TheVariants.{BackInTime}
use Rattle.field.specs.declared.Cursor.{Cursor}
use Rattle.field.specs.Reads.{Stands}
use Rattle.line.specs.Records.{spelled, RecordOk, bad_record, record_answer, record_fault}
use Rattle.line.specs.Boards.{spelled_board, BoardOk, bad_board, board_answer, board_fault}
use Rattle.text.specs.declared.checking.Refusal.{Refusal}
use Rattle.text.specs.Buses.{buses_after, Possible, ImpossibleAfter, moves_answer}
use Rattle.text.specs.Stamps.{last_stamp}

-- text of at most 65,536 bytes
abbrev pub text_limit : ℕ
text_limit = 65536

unfoldable pub spelled_all : List Record → List ℕ
spelled_all [] = []
spelled_all (r ∷ rs) = spelled r ++ spelled_all rs

unfoldable pub spelled_trace : Board → List Record → List ℕ
spelled_trace b rs = spelled_board b ++ spelled_all rs

-- no stamp is below an earlier one, and no record is impossible
pub record Acceptable (rs : List Record) : Type 0 where
  pub never_back : Rising (λ (r : Record). r.stamp) rs
  pub possible : Possible (buses_after rs)

-- the text is the spelling of a board in range and of acceptable records, and nothing more
pub record Readable (text : List ℕ) (b : Board) (rs : List Record) : Type 0 where
  pub board : BoardOk b
  pub fits : All RecordOk rs
  pub acceptable : Acceptable rs
  pub is : text ≡ spelled_trace b rs

-- such a spelling stands at the front of the text
pub record Front (text : List ℕ) (b : Board) (rs : List Record) : Type 0 where
  pub board : BoardOk b
  pub fits : All RecordOk rs
  pub acceptable : Acceptable rs
  pub stands : Stands text 0 (spelled_trace b rs)

-- what is wrong with the line at a place, after the records rs, and the field's number (0 for answers other than 3): something is there and it is
-- no record's line; or it is one, and falls back in time; or does not, and is impossible
pub data Wrong (text : List ℕ) (at : ℕ) (rs : List Record) : Answer → ℕ → Type 0 where
  no_record : at < length text → ((r : Record) → RecordOk r → Stands text at (spelled r) → ⊥) → Wrong text at rs (record_answer (bad_record text at)) (record_fault (bad_record text at))
  falls : (r : Record) → RecordOk r → Stands text at (spelled r) → r.stamp < last_stamp 0 rs → Wrong text at rs BackInTime 0
  cannot : (r : Record) → RecordOk r → Stands text at (spelled r) → last_stamp 0 rs ≤ r.stamp → ImpossibleAfter rs r → Wrong text at rs (moves_answer None) 0

-- the first bad line, its number and the field's: line 1 is no board's (no text too), or a later line is wrong and all before it are good
pub data Refused (text : List ℕ) : Answer → ℕ → ℕ → Type 0 where
  no_board : ((b : Board) → BoardOk b → Stands text 0 (spelled_board b) → ⊥) → Refused text (board_answer (bad_board text 0)) 1 (board_fault (bad_board text 0))
  bad_line : {a : Answer} {f : ℕ} (b : Board) (rs : List Record) → Front text b rs → Wrong text (length (spelled_trace b rs)) rs a f → Refused text a (length rs + 2) f

-- what a check says: the board and the place of the first record, or the answer, the line's number and the field's
abbrev pub Checked : Type 0
Checked = Result (Board × Cursor) Refusal

abbrev pub accepted : Board → ℕ → Checked
accepted b p = Ok (b, record { at = p })

abbrev pub refusal : Answer → ℕ → ℕ → Checked
refusal a n f = Err (record { answer = a; line = n; field = f })

-- the answer of the check: a text is readable or refused, and the answer says which and how
pub record Checks (text : List ℕ) (r : Checked) : Type 0 where
  pub readable : (b : Board) (rs : List Record) → Readable text b rs → r ≡ accepted b (length (spelled_board b))
  pub refused : (a : Answer) (n f : ℕ) → Refused text a n f → r ≡ refusal a n f
  pub only : ((b : Board) × (rs : List Record) × Readable text b rs) ⊎ ((a : Answer) × (n : ℕ) × (f : ℕ) × Refused text a n f)
