-- Believed: One trace of the capture's records and those taken from the logger, and how both texts are judged (document 02, request 4/12).
use Rattle.std.specs.Prelude.{ℕ, ◌+◌, ◌*◌, ◌≡◌, true, false, List, ◌++◌, ltb, length}
use Rattle.law.specs.Order.{InOrder}
use Rattle.record.specs.declared.Event.{Event}
use Rattle.record.specs.declared.Event.TheVariants.{Flash, Eeprom, Line}
use Rattle.record.specs.declared.Record.{Record}
use Rattle.record.specs.declared.Board.{Board}
use Rattle.record.specs.declared.Answer.{Answer}
use Rattle.record.specs.declared.Answer.TheVariants.{TooLong}
use Rattle.record.specs.declared.LevelsAnswer.{LevelsAnswer}
use Rattle.record.specs.Answers.{answer_number, levels_answer_number}
use Rattle.text.specs.Texts.{text_limit, Readable, Refused}
use Rattle.level.specs.declared.Level.{Level}
use Rattle.decode.specs.Decoded.{flash_of, eeprom_of}
use Rattle.capture.specs.declared.Part.TheVariants.{FlashEnds, EepromEnds, Lines}
use Rattle.capture.specs.Taken.{part_of, taken_of}
use Rattle.capture.specs.Captures.{Captures, BadCapture}

abbrev pub channel_place : Event → ℕ
channel_place (Flash e) = 0
channel_place (Eeprom e) = 1
channel_place (Line e) = 2

-- 'by stamp, and at one stamp F, E, L'
abbrev pub number_of : Record → ℕ
number_of r = r.stamp * 3 + channel_place r.event

-- all records that the two texts give: both buses' by the capture, and what is taken from the logger
abbrev pub gathered : List Level → List Record → List Record
gathered ls rs = flash_of ls ++ (eeprom_of ls ++ (part_of FlashEnds rs ++ (part_of EepromEnds rs ++ part_of Lines rs)))

-- the trace's records: in that order, and at one stamp each channel's own order kept
abbrev pub Merged : List Level → List Record → List Record → Type 0
Merged ls rs m = InOrder number_of (gathered ls rs) m

-- how both texts are judged: a refusal with its number, line and field, or the board and the records of one trace
pub data Judgement : Type 0 where
  refused : ℕ → ℕ → ℕ → Judgement
  merged : Board → List Record → Judgement

-- The order of refusals: the logger's trace whole (2, then 3, 4, 5 with the line, a 3 with its field), the level text's length (2), its first bad line (12, 13).
pub data Judges (levels trace : List ℕ) : Judgement → Type 0 where
  long_trace : ltb text_limit (length trace) ≡ true → Judges levels trace (refused (answer_number TooLong) 0 0)
  bad_trace : (a : Answer) (n f : ℕ) → ltb text_limit (length trace) ≡ false → Refused trace a n f → Judges levels trace (refused (answer_number a) n f)
  long_levels : (b : Board) (rs : List Record) → ltb text_limit (length trace) ≡ false → Readable trace b rs → ltb text_limit (length levels) ≡ true →
      Judges levels trace (refused (answer_number TooLong) 0 0)
  bad_levels : (b : Board) (rs : List Record) (a : LevelsAnswer) (n : ℕ) → ltb text_limit (length trace) ≡ false → Readable trace b rs → ltb text_limit (length levels) ≡ false →
      BadCapture (taken_of rs) levels a n → Judges levels trace (refused (levels_answer_number a) n 0)
  both : (b : Board) (rs : List Record) (ls : List Level) (m : List Record) → ltb text_limit (length trace) ≡ false → Readable trace b rs → ltb text_limit (length levels) ≡ false →
      Captures (taken_of rs) levels ls → Merged ls rs m → Judges levels trace (merged b m)
