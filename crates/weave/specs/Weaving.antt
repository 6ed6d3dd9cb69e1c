-- Several feeds in one order: what is left of each, and the records of all, in order.
use Rattle.std.specs.Prelude.{ℕ, ◌≤◌, ◌<◌, ◌≡◌, Option, Some, None, List, [], ◌∷◌, ◌++◌, length, get_or}
use Rattle.law.specs.Words.{All, Rising}
use Rattle.law.specs.Order.{InOrder}
use Rattle.record.specs.declared.Board.{Board}
use Rattle.record.specs.declared.Record.{Record}
use Rattle.line.specs.Boards.{spelled_board}
use Rattle.text.specs.Texts.{Readable}
use Rattle.level.specs.declared.Level.{Level}
use Rattle.level.specs.Spelled.{spelled_level}
use Rattle.capture.specs.declared.Part.TheVariants.{FlashEnds, EepromEnds, Lines}
use Rattle.capture.specs.Taken.{taken_of}
use Rattle.capture.specs.Captures.{Captures}
use Rattle.capture.specs.Merge.{number_of, Merged}
use Rattle.weave.specs.declared.Weave.{Weave}
use Rattle.weave.specs.Feeding.{Feed, over, ahead, level_feed, trace_feed, OfPart, Gives}

-- above the number of every record: 3 · 2^32
abbrev pub above : ℕ
above = 12884901888

abbrev pub head_number : Feed → ℕ
head_number over = above
head_number (ahead r p) = number_of r

-- the same of a feed as the code has it
abbrev pub number_ahead : {P : Type 0} → Option (Record × P) → ℕ
number_ahead None = above
number_ahead (Some (r, p)) = number_of r

-- what is taken from a feed: its head, and the number of the one behind it
abbrev pub TakesHead : {P : Type 0} → (P → Option (Record × P) → Type 0) → Option (Record × P) → Option (Record × ℕ) → Option (Record × P) → Type 0
TakesHead feeds None r new = (r ≡ None) × (new ≡ None)
TakesHead feeds (Some (x, p)) r new = (r ≡ Some (x, number_ahead new)) × feeds p new

-- all feeds
abbrev pub feeds_of : Weave → List Feed
feeds_of w =
    level_feed w.flash ∷ level_feed w.eeprom ∷ trace_feed w.flash_ends ∷ trace_feed w.eeprom_ends ∷ trace_feed w.lines ∷ []

-- each of the three feeds of the trace is of its own part
abbrev pub OwnParts : Weave → Type 0
OwnParts w = OfPart FlashEnds w.flash_ends × OfPart EepromEnds w.eeprom_ends × OfPart Lines w.lines

-- the numbers of their heads
unfoldable pub numbers_of : List Feed → List ℕ
numbers_of [] = []
numbers_of (f ∷ fs) = head_number f ∷ numbers_of fs

abbrev pub number_at : List ℕ → ℕ → ℕ
number_at ns j = get_or ns j 0

-- number i is the first that no other is below
pub record Least (ns : List ℕ) (i : ℕ) : Type 0 where
  pub small : i < length ns
  pub first : (j : ℕ) → j < i → number_at ns i < number_at ns j
  pub least : (j : ℕ) → j < length ns → number_at ns i ≤ number_at ns j

unfoldable pub joined : List (List Record) → List Record
joined [] = []
joined (xs ∷ xss) = xs ++ joined xss

-- each feed has its own list to give, which stands by rising number
unfoldable pub Each : List ℕ → List ℕ → List Feed → List (List Record) → Type 0
Each levels trace [] [] = Unit {0}
Each levels trace [] (xs ∷ xss) = ⊥
Each levels trace (f ∷ fs) [] = ⊥
Each levels trace (f ∷ fs) (xs ∷ xss) = Gives levels trace f xs × Rising number_of xs × Each levels trace fs xss

-- the records m are left: those of all feeds, in order; the numbers are those of the feeds' heads
pub record Left (w : Weave) (m : List Record) : Type 0 where
  pub parts : List (List Record)
  pub numbers : w.numbers ≡ numbers_of (feeds_of w)
  pub own_parts : OwnParts w
  pub each : Each w.levels.now w.trace.now (feeds_of w) parts
  pub ordered : InOrder number_of (joined parts) m
  pub below : All (λ (r : Record). number_of r < above) m

-- the next of the records m, and the others, of the same two texts
pub data WovenBy (w : Weave) : Option Record → List Record → Type 0 where
  nothing : WovenBy w None []
  following : (x : Record) (m : List Record) → Left w m → WovenBy w (Some x) (x ∷ m)

pub record Weaves (w : Weave) (r : Option Record) (left : Weave) : Type 0 where
  pub weaves : (m : List Record) → Left w m → WovenBy left r m
  pub same : (left.levels ≡ w.levels) × (left.trace ≡ w.trace)

-- at the start all merged records are left
pub record Starts (levels trace : List ℕ) (a : Level) (at first : ℕ) (w : Weave) : Type 0 where
  pub starts : (b : Board) (rs : List Record) (ls : List Level) (m : List Record) → Readable trace b rs → first ≡ length (spelled_board b) →
      Captures (taken_of rs) levels (a ∷ ls) → at ≡ length (spelled_level a) → Merged (a ∷ ls) rs m → Left w m
