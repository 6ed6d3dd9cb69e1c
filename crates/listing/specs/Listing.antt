-- Believed: A whole listing, and which records the one of a replay lists (document 01, 'One listing in full').
use Rattle.std.specs.Prelude.{ℕ, suc, ◌+◌, ◌*◌, ◌≤◌, true, false, ◌≡◌, List, [], ◌∷◌, ◌++◌, eqb, ltb, length, drop}
use Rattle.law.specs.Words.{pick}
use Rattle.record.specs.declared.Board.{Board}
use Rattle.record.specs.declared.Record.{Record}
use Rattle.record.specs.Lengths.{replies_length, result_length, reply_places}
use Rattle.field.specs.Reads.{Stands}
use Rattle.field.specs.Room.{room}
use Rattle.line.specs.Boards.{spelled_board, BoardOk}
use Rattle.line.specs.Records.{spelled, RecordOk}
use Rattle.listing.specs.Bytes.{was_played, reply_at, match_at, answer_in, place_in, count_in, field_in, is_refusal}
use Rattle.listing.specs.Lines.{heading, record_line, last_line, refused_line}

-- Which records are listed from a place of the text on, the first of them being record k: each one that stands there and was played, and then
-- the one that stands after it; none any more where none stands, or the one that does was not played. Exactly the records from a stop's stamp on were not played.
unfoldable pub ListedFrom : List ℕ → List ℕ → ℕ → ℕ → List Record → Type 0
ListedFrom text replies at k [] = (r : Record) → RecordOk r → Stands text at (spelled r) → was_played (reply_at replies k) ≡ false
ListedFrom text replies at k (r ∷ rs) = RecordOk r × Stands text at (spelled r) × (was_played (reply_at replies k) ≡ true) × ListedFrom text replies (at + length (spelled r)) (suc k) rs

-- Which records of a text are listed: those behind the line of the board that stands at its front; none where no board does.
pub record Listed (text replies : List ℕ) (rs : List Record) : Type 0 where
  pub behind : (b : Board) → BoardOk b → Stands text 0 (spelled_board b) → ListedFrom text replies (length (spelled_board b)) 0 rs
  pub none : ((b : Board) → BoardOk b → Stands text 0 (spelled_board b) → ⊥) → rs ≡ []

-- record k is on line k + 2
unfoldable pub record_lines : List ℕ → ℕ → List Record → List ℕ
record_lines replies k [] = []
record_lines replies k (r ∷ rs) = record_line (k + 2) r.stamp (reply_at replies k) (match_at replies k) ++ record_lines replies (suc k) rs

-- a refusal alone; else a heading, these lines, and the last line
unfoldable pub listing_with : List ℕ → List ℕ → List ℕ → List ℕ
listing_with head lines result =
    pick (is_refusal (answer_in result)) (refused_line (answer_in result) (place_in result) (field_in result))
    (head ++ (lines ++ last_line (answer_in result) (place_in result) (count_in result)))

-- of a replay: a line for each record that is listed
abbrev pub listing_of : List Record → List ℕ → List ℕ → List ℕ
listing_of rs replies result = listing_with heading (record_lines replies 0 rs) result

-- enough for any listing: no line is longer than a spelling's room, and there is a line for each reply at most, a heading and a last line
abbrev pub listing_room : ℕ
listing_room = room * (reply_places + 2)

-- the first where what is listed has that length, the result its own, and the output at least the room; else the second
abbrev pub where_fit : {A : Type 0} → ℕ → List ℕ → List ℕ → List ℕ → A → A → A
where_fit size listed result old a b =
    pick (eqb (length listed) size) (pick (eqb (length result) result_length) (pick (ltb (length old) listing_room) b a) b) b

-- The listing w is written: it stands at the front of the output, the rest of which stays, and its length n is given back. Where what is listed or the result
-- has another length, or the output is shorter, n is 0 and the output stays as it was. So n never reaches beyond the output.
pub record Formats (size : ℕ) (listed result w old new : List ℕ) (n : ℕ) : Type 0 where
  pub within : n ≤ length new
  pub answer : n ≡ where_fit size listed result old (length w) 0
  pub content : new ≡ where_fit size listed result old (w ++ drop (length w) old) old

pub record Lists (text replies result old new : List ℕ) (n : ℕ) : Type 0 where
  pub records : List Record
  pub listed : Listed text replies records
  pub formats : Formats replies_length replies result (listing_of records replies result) old new n
