-- Believed: The board's line (document 01, 'The trace').
use Rattle.std.specs.Prelude.{ℕ, ◌≡◌, List, ◌++◌, drop, Result, Ok, Err}
use Rattle.record.specs.declared.Answer.{Answer}
use Rattle.record.specs.declared.Answer.TheVariants.{Settled, BadLine}
use Rattle.record.specs.declared.Board.{Board}
use Rattle.record.specs.Status.{StatusOk}
use Rattle.field.specs.Ends.{tab, lf}
use Rattle.field.specs.Hex.{hex_field}
use Rattle.field.specs.Digit.{digit_field, DigitOk}
use Rattle.field.specs.Reads.{Reads}
use Rattle.line.specs.Places.{first_bad_of_board}
use Rattle.line.specs.Words.{word_board}
use Rattle.line.specs.Output.{on_paper, Wrote}
use Rattle.field.specs.Read.{Read, got, bad_field}
use Rattle.line.specs.declared.output.WriteError.{WriteError}

unfoldable pub spelled_places : ℕ × ℕ → List ℕ
spelled_places x = digit_field x.0 ++ (tab ++ (digit_field x.1 ++ lf))

-- watched sector 1 to 4, wired address 0 to 7
abbrev pub PlacesOk : ℕ × ℕ → Type 0
PlacesOk x = DigitOk 1 4 x.0 × DigitOk 0 7 x.1

-- the one spelling of a board: its line with the LF
unfoldable pub spelled_board : Board → List ℕ
spelled_board b = word_board ++ (tab ++ (hex_field b.status ++ (tab ++ spelled_places (b.sector, b.address))))

-- a board in range
abbrev pub BoardOk : Board → Type 0
BoardOk b = StatusOk b.status × PlacesOk (b.sector, b.address)

-- where no board's line stands, and by the paper's answers and fields: as of a record
abbrev pub bad_board : List ℕ → ℕ → Read Board
bad_board text at = bad_field (first_bad_of_board (drop at text))

abbrev pub ReadsBoard : List ℕ → ℕ → Read Board → Type 0
ReadsBoard text at = Reads spelled_board BoardOk got (bad_board text at) text at

abbrev pub board_answer : Read Board → Answer
board_answer (Err e) = BadLine
board_answer (Ok x) = Settled

abbrev pub board_fault : Read Board → ℕ
board_fault (Err e) = e.0
board_fault (Ok x) = 0

-- a board is written: out of range is refusal 9 and leaves the output alone, else it is its line that is written
pub record WroteBoard (b : Board) (old new : List ℕ) (r : Result ℕ WriteError) : Type 0 where
  pub out_of_range : (BoardOk b → ⊥) → (on_paper r ≡ (9, 0)) × (new ≡ old)
  pub in_range : BoardOk b → Wrote (spelled_board b) old new r
