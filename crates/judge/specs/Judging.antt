-- Both texts judged, as the code hands it on.
use Rattle.std.specs.Prelude.{ℕ, ◌≡◌, false, Result, Ok, Err, List, ◌∷◌, ltb, length}
use Rattle.record.specs.declared.Board.{Board}
use Rattle.record.specs.declared.Record.{Record}
use Rattle.record.specs.Answers.{answer_number, levels_answer_number}
use Rattle.line.specs.Boards.{spelled_board}
use Rattle.text.specs.Texts.{text_limit, Readable}
use Rattle.level.specs.declared.Level.{Level}
use Rattle.level.specs.Spelled.{spelled_level}
use Rattle.capture.specs.Taken.{taken_of}
use Rattle.capture.specs.Captures.{Captures}
use Rattle.capture.specs.Merge.{refused, Judges}
use Rattle.judge.specs.declared.Accepted.{Accepted}
use Rattle.judge.specs.declared.JudgeAnswer.{JudgeAnswer}
use Rattle.judge.specs.declared.JudgeAnswer.TheVariants.{Text, Levels}
use Rattle.judge.specs.declared.Refused.{Refused}

-- the answer's number on the paper
abbrev pub judge_number : JudgeAnswer → ℕ
judge_number (Text a) = answer_number a
judge_number (Levels a) = levels_answer_number a

abbrev pub Judged : Type 0
Judged = Result Accepted Refused

-- the answer, the line and the field; or the board and the place of the first record in the trace, the first level line and the place behind it
abbrev pub judged_refused : JudgeAnswer → ℕ → ℕ → Judged
judged_refused a k f = Err (record { answer = a; line = k; field = f })

abbrev pub judged_both : Board → ℕ → Level → ℕ → Judged
judged_both b first l at = Ok (record { board = b; first = first; level = l; at = at })

pub data Judging (levels trace : List ℕ) : Judged → Type 0 where
  is_refused : (a : JudgeAnswer) (k f : ℕ) → Judges levels trace (refused (judge_number a) k f) → Judging levels trace (judged_refused a k f)
  is_both : (b : Board) (rs : List Record) (a : Level) (ls : List Level) → ltb text_limit (length trace) ≡ false → Readable trace b rs → ltb text_limit (length levels) ≡ false →
      Captures (taken_of rs) levels (a ∷ ls) → Judging levels trace (judged_both b (length (spelled_board b)) a (length (spelled_level a)))
