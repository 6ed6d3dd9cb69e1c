-- The check of a level text beside a readable trace.
use Rattle.std.specs.Prelude.{ℕ, ◌≤◌, ◌<◌, ◌≡◌, Bool, false, Option, Some, None, Result, Ok, Err, List, ◌∷◌, eqb, leb, length}
use Rattle.law.specs.Words.{pick, Rising}
use Rattle.record.specs.declared.Board.{Board}
use Rattle.record.specs.declared.Record.{Record}
use Rattle.record.specs.declared.LevelsAnswer.{LevelsAnswer}
use Rattle.field.specs.declared.Cursor.{Cursor}
use Rattle.line.specs.Boards.{spelled_board}
use Rattle.text.specs.Texts.{Readable}
use Rattle.level.specs.declared.Level.{Level}
use Rattle.level.specs.Spelled.{spelled_level}
use Rattle.capture.specs.Taken.{taken, taken_of, stamped}
use Rattle.capture.specs.Captures.{Captures, BadCapture}
use Rattle.capture.specs.OneByOne.{From, records}
use Rattle.judge.specs.declared.Reach.{Reach}
use Rattle.judge.specs.declared.LevelsRefusal.{LevelsRefusal}

abbrev pub reached_by : Record → ℕ → Bool
reached_by r t = pick (taken r.event) (leb t r.stamp) false

-- From a place on the trace is records whose stamps rise: of those taken, the stamps from t on are those of ts, and none is below `free`.
pub record Ahead (trace : List ℕ) (ts : List Record) (t at free : ℕ) : Type 0 where
  pub rest : List Record
  pub from : From records trace at rest
  pub rising : Rising (λ (r : Record). r.stamp) rest
  pub same : (u : ℕ) → t ≤ u → stamped ts u ≡ stamped (taken_of rest) u
  pub none : (u : ℕ) → u < free → stamped (taken_of rest) u ≡ false

-- The record that was reached, by its stamp if there is one: whether it has the stamp t, and a stamp below which none is taken from there on.
abbrev pub hits : Option ℕ → ℕ → Bool
hits None t = false
hits (Some s) t = eqb s t

abbrev pub free_of : Option ℕ → ℕ
free_of None = 0
free_of (Some s) = s

-- Stamps that are asked for rise too, s before t: whether one of ts has the stamp t, and the place from which on later ones can be asked for.
pub record Reaches (trace : List ℕ) (from free t : ℕ) (r : Reach) : Type 0 where
  pub reaches : (ts : List Record) (s : ℕ) → s ≤ t → Ahead trace ts s from free → (hits r.stamp t ≡ stamped ts t) × Ahead trace ts t r.at (free_of r.stamp)

-- the first line and the place behind it, or the first bad line's refusal and number
abbrev pub CheckedLevels : Type 0
CheckedLevels = Result (Level × Cursor) LevelsRefusal

abbrev pub levels_usable : Level → ℕ → CheckedLevels
levels_usable l p = Ok (l, record { at = p })

abbrev pub levels_bad : LevelsAnswer → ℕ → CheckedLevels
levels_bad a n = Err (record { answer = a; line = n })

-- what the check of a level text says, where ts are the records taken
pub data LevelsChecked (ts : List Record) (text : List ℕ) : CheckedLevels → Type 0 where
  usable : (a : Level) (ls : List Level) → Captures ts text (a ∷ ls) → LevelsChecked ts text (levels_usable a (length (spelled_level a)))
  bad : (a : LevelsAnswer) (n : ℕ) → BadCapture ts text a n → LevelsChecked ts text (levels_bad a n)

pub record ChecksLevels (levels trace : List ℕ) (first : ℕ) (r : CheckedLevels) : Type 0 where
  pub checks : (b : Board) (rs : List Record) → Readable trace b rs → first ≡ length (spelled_board b) → LevelsChecked (taken_of rs) levels r
