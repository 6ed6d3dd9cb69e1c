-- The length of all lines, by the two texts, and the lines of the records that are left, from a place of the output on.
use Rattle.std.specs.Prelude.{ℕ, ◌+◌, ◌≤◌, ◌≡◌, Bool, List, ◌∷◌, ◌++◌, length, take, drop}
use Rattle.law.specs.Deciding.{Decides}
use Rattle.record.specs.declared.Record.{Record}
use Rattle.record.specs.declared.Board.{Board}
use Rattle.line.specs.Records.{spelled}
use Rattle.line.specs.Boards.{BoardOk}
use Rattle.text.specs.Texts.{spelled_all, spelled_trace}
use Rattle.level.specs.declared.Level.{Level}
use Rattle.decode.specs.Decoded.{decoded_from, flash_start, wires_start}
use Rattle.capture.specs.Taken.{taken_of}
use Rattle.capture.specs.Merge.{Merged}
use Rattle.capture.specs.OneByOne.{From, records, levels}
use Rattle.capture.specs.Most.{most}
use Rattle.weave.specs.declared.Weave.{Weave}
use Rattle.weave.specs.Weaving.{Left}
use Rattle.merged.specs.Merging.{longest_text}

-- a board's line has always so many bytes
abbrev pub board_line : ℕ
board_line = 13

-- no record's line has more
abbrev pub longest : ℕ
longest = 21

-- the bytes w stand in the output from the place on, the rest is as it was
abbrev pub put_at : ℕ → List ℕ → List ℕ → List ℕ
put_at at w old = take at old ++ (w ++ drop (at + length w) old)

-- the length of all lines that the capture gives behind its line a, where those behind it begin at a place
pub record CountsLevels (text : List ℕ) (a : Level) (at r : ℕ) : Type 0 where
  pub counts : (ls : List Level) → From levels text at ls → r ≡ length (spelled_all (decoded_from flash_start a ls)) + length (spelled_all (decoded_from wires_start a ls))

-- the same of the lines that are taken from the logger's trace
pub record CountsTaken (text : List ℕ) (at r : ℕ) : Type 0 where
  pub counts : (rs : List Record) → From records text at rs → r ≡ length (spelled_all (taken_of rs))

-- whether so many bytes have room for the text; that none is longer than the longest is known of judged texts
pub record HasRoom (capture trace : List ℕ) (a : Level) (at first bytes : ℕ) (r : Bool) : Type 0 where
  pub room : (ls : List Level) (rs m : List Record) → From levels capture at ls → From records trace first rs → Merged (a ∷ ls) rs m → board_line + length (spelled_all m) ≤ longest_text →
      Decides r (board_line + length (spelled_all m) ≤ bytes)

pub record WritesLine (rec : Record) (at : ℕ) (old new : List ℕ) (r : ℕ) : Type 0 where
  pub writes : at + length (spelled rec) ≤ length old → (r ≡ at + length (spelled rec)) × (new ≡ put_at at (spelled rec) old)

pub record WritesAll (w : Weave) (from : ℕ) (old new : List ℕ) (r : ℕ) : Type 0 where
  pub writes : (m : List Record) → Left w m → length m ≤ most → from + length (spelled_all m) ≤ length old → (r ≡ from + length (spelled_all m)) × (new ≡ put_at from (spelled_all m) old)

-- the whole text at the front, where there is room for it
pub record WritesText (w : Weave) (b : Board) (old new : List ℕ) (r : ℕ) : Type 0 where
  pub writes : (m : List Record) → BoardOk b → Left w m → length m ≤ most → length (spelled_trace b m) ≤ length old →
      (r ≡ length (spelled_trace b m)) × (new ≡ spelled_trace b m ++ drop (length (spelled_trace b m)) old)
