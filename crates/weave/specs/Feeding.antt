-- What a feed still has to give.
use Rattle.std.specs.Prelude.{ℕ, ◌≡◌, Option, Some, None, IfSome, List, [], ◌∷◌, ◌++◌}
use Rattle.record.specs.declared.Record.{Record}
use Rattle.level.specs.declared.Level.{Level}
use Rattle.decode.specs.declared.Out.{Out}
use Rattle.decode.specs.declared.Out.TheVariants.{Nothing, One, Two}
use Rattle.decode.specs.declared.bits.Bits.{Bits}
use Rattle.decode.specs.Bits.{events_of}
use Rattle.decode.specs.Decoded.{record_at, records_at, decoded_from}
use Rattle.capture.specs.declared.Part.{Part}
use Rattle.capture.specs.declared.Part.TheVariants.{FlashEnds, EepromEnds, Lines}
use Rattle.capture.specs.Taken.{part_of}
use Rattle.capture.specs.OneByOne.{From, records, levels}
use Rattle.weave.specs.declared.feed.Behind.{Behind}
use Rattle.weave.specs.declared.feed.Within.{Within}

abbrev pub LevelFeed : Type 0
LevelFeed = Option (Record × Behind)

abbrev pub TraceFeed : Type 0
TraceFeed = Option (Record × Within)

abbrev pub within_of : Part → ℕ → Within
within_of part at = record { part = part; at = at }

abbrev pub behind_of : ℕ → Level → Bits → Out → Behind
behind_of at l s o = record { at = at; last = l; bits = s; more = o }

-- what the line l still gives
abbrev pub give_by : ℕ → Level → Bits → Out → LevelFeed
give_by at l s Nothing = None
give_by at l s (One e) = Some (record_at l.stamp e, behind_of at l s Nothing)
give_by at l s (Two d e) = Some (record_at l.stamp d, behind_of at l s (One e))

abbrev pub give_of : Behind → LevelFeed
give_of p = give_by p.at p.last p.bits p.more

-- the records xs are still to come: the line's own, and those of the lines behind it
pub record LevelsLeft (text : List ℕ) (p : Behind) (xs : List Record) : Type 0 where
  pub ls : List Level
  pub from : From levels text p.at ls
  pub is : xs ≡ records_at p.last.stamp (events_of p.more) ++ decoded_from p.bits p.last ls

-- of the records from the place on, those of the part
pub record TraceLeft (text : List ℕ) (part : Part) (at : ℕ) (xs : List Record) : Type 0 where
  pub rs : List Record
  pub from : From records text at rs
  pub is : xs ≡ part_of part rs

-- the letter of a part's channel
abbrev pub letter_of : Part → ℕ
letter_of FlashEnds = 70
letter_of EepromEnds = 69
letter_of Lines = 76

-- between the two places there is no record of a part with the letter
pub record Passes (text : List ℕ) (letter from at : ℕ) : Type 0 where
  pub passes : (part : Part) → letter_of part ≡ letter → (xs : List Record) → TraceLeft text part from xs → TraceLeft text part at xs

-- ---- a feed of either text: nothing is left, or the next record and the place from which it goes on
pub data Place : Type 0 where
  in_levels : Behind → Place
  in_trace : Part → ℕ → Place

pub data Feed : Type 0 where
  over : Feed
  ahead : Record → Place → Feed

abbrev pub level_feed : LevelFeed → Feed
level_feed None = over
level_feed (Some (r, p)) = ahead r (in_levels p)

abbrev pub trace_feed : TraceFeed → Feed
trace_feed None = over
trace_feed (Some (r, p)) = ahead r (in_trace p.part p.at)

unfoldable pub PlaceLeft : List ℕ → List ℕ → Place → List Record → Type 0
PlaceLeft levels' trace (in_levels p) xs = LevelsLeft levels' p xs
PlaceLeft levels' trace (in_trace part at) xs = TraceLeft trace part at xs

-- a feed that still has the records xs to give
pub data Gives (levels trace : List ℕ) : Feed → List Record → Type 0 where
  done : Gives levels trace over []
  next : (x : Record) (p : Place) (xs : List Record) → PlaceLeft levels trace p xs → Gives levels trace (ahead x p) (x ∷ xs)

-- the feed goes on in this part of the trace
abbrev pub OfPart : Part → TraceFeed → Type 0
OfPart part r = IfSome r (λ x. x.1.part ≡ part)

-- the feed r gives what is still to come at a place
pub record FeedsLevels (levels : List ℕ) (p : Behind) (r : LevelFeed) : Type 0 where
  pub feeds : (trace : List ℕ) (xs : List Record) → LevelsLeft levels p xs → Gives levels trace (level_feed r) xs

pub record FeedsTrace (trace : List ℕ) (p : Within) (r : TraceFeed) : Type 0 where
  pub feeds : (levels : List ℕ) (xs : List Record) → TraceLeft trace p.part p.at xs → Gives levels trace (trace_feed r) xs
  pub own_part : OfPart p.part r

pub record Feeds (levels trace : List ℕ) (p : Place) (r : Feed) : Type 0 where
  pub feeds : (xs : List Record) → PlaceLeft levels trace p xs → Gives levels trace r xs
