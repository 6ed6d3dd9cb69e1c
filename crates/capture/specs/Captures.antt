-- Believed: A level text that can be used, and the first bad line of one that can't (document 02, request 4/12, refusals 12 and 13). ts are the records taken from the logger.
use Rattle.std.specs.Prelude.{ℕ, ◌+◌, ◌<◌, ◌≡◌, Bool, Result, Ok, Err, ◌⊎◌, List, [], ◌∷◌, ◌++◌, ltb, length}
use Rattle.law.specs.Words.{pick}
use Rattle.record.specs.declared.Record.{Record}
use Rattle.record.specs.declared.LevelsAnswer.{LevelsAnswer}
use Rattle.record.specs.declared.LevelsAnswer.TheVariants.{BadLevel, Together}
use Rattle.field.specs.Reads.{Stands}
use Rattle.level.specs.declared.Level.{Level}
use Rattle.level.specs.Spelled.{spelled_level, LevelOk}
use Rattle.level.specs.Rest.{resting, clash}
use Rattle.capture.specs.Taken.{stamped}

unfoldable pub spelled_levels : List Level → List ℕ
spelled_levels [] = []
spelled_levels (l ∷ ls) = spelled_level l ++ spelled_levels ls

-- the line before: none before the first
pub data Before : Type 0 where
  none : Before
  line : Level → Before

unfoldable pub last_of : Before → List Level → Before
last_of p [] = p
last_of p (l ∷ ls) = last_of (line l) ls

-- what is wrong with a line that has the form of one, or nothing
abbrev pub Fault : Type 0
Fault = Result (Unit {0}) LevelsAnswer

-- 'a wrong first line, a stamp below the one before or equal to that of a record taken from the logger' (hit); what changes together; '12 first on one line'
abbrev pub first_fault : Level → Bool → Fault
first_fault l hit = pick (resting l) (pick hit (Err BadLevel) (Ok tt)) (Err BadLevel)

abbrev pub later_fault : Level → Level → Bool → Fault
later_fault a l hit = pick (ltb l.stamp a.stamp) (Err BadLevel) (pick hit (Err BadLevel) (pick (clash a l) (Err Together) (Ok tt)))

-- of the line l behind another, or as the first
unfoldable pub fault_of : List Record → Before → Level → Fault
fault_of ts none l = first_fault l (stamped ts l.stamp)
fault_of ts (line a) l = later_fault a l (stamped ts l.stamp)

-- no line has a fault
unfoldable pub Faultless : List Record → Before → List Level → Type 0
Faultless ts p [] = Unit {0}
Faultless ts p (l ∷ ls) = LevelOk l × (fault_of ts p l ≡ Ok tt) × Faultless ts (line l) ls

-- the text is the spelling of the lines ls and nothing more; there is one at least
pub record Captures (ts : List Record) (text : List ℕ) (ls : List Level) : Type 0 where
  pub some : 0 < length ls
  pub faultless : Faultless ts none ls
  pub is : text ≡ spelled_levels ls

-- the lines ls are faultless and stand at the front of the text
pub record Begins (ts : List Record) (text : List ℕ) (ls : List Level) : Type 0 where
  pub faultless : Faultless ts none ls
  pub stands : Stands text 0 (spelled_levels ls)

-- The first bad line, its refusal and its number: behind the lines ls, which are good, stands something that is no level line (an empty text has no first line), or a level line with a fault.
pub data BadCapture (ts : List Record) (text : List ℕ) : LevelsAnswer → ℕ → Type 0 where
  no_level : (ls : List Level) → Begins ts text ls → ((ls ≡ []) ⊎ (length (spelled_levels ls) < length text)) →
      ((l : Level) → LevelOk l → Stands text (length (spelled_levels ls)) (spelled_level l) → ⊥) → BadCapture ts text BadLevel (length ls + 1)
  faulty : (ls : List Level) (l : Level) (a : LevelsAnswer) → Begins ts text ls → LevelOk l → Stands text (length (spelled_levels ls)) (spelled_level l) →
      fault_of ts (last_of none ls) l ≡ Err a → BadCapture ts text a (length ls + 1)
