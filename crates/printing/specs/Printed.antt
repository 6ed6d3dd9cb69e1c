-- Believed: What is printed of a text and of the dumps (document 01, 'One listing in full', 'Bytes and doubt'; document 02, requests 1/12 and 2/12).
use Rattle.std.specs.Prelude.{ℕ, suc, ◌+◌, ◌≤◌, ◌<◌, ◌≡◌, Bool, true, false, Option, Some, None, List, [], ◌∷◌, ◌++◌, eqb, ltb, length, drop, replicate}
use Rattle.std.specs.Borrow.{Bor}
use Rattle.meaning.specs.Meaning.{Means, before}
use Rattle.meaning.specs.Meaning as meaning
use Rattle.meaning.specs.Listing.{shown_at}
use Rattle.record.specs.declared.Board.{Board}
use Rattle.record.specs.declared.Record.{Record}
use Rattle.record.specs.declared.Reply.{Reply}
use Rattle.record.specs.declared.Chip.{Chip}
use Rattle.record.specs.declared.Chip.TheVariants.{Flash, Eeprom}
use Rattle.record.specs.declared.Answer.{Answer}
use Rattle.record.specs.declared.Answer.TheVariants.{BadBuffers, TooLong}
use Rattle.record.specs.Answers.{answer_number}
use Rattle.image.specs.Image.{Image, image_of}
use Rattle.image.specs.Images.{Images, per_chip, every_chip, kept_bytes}
use Rattle.machine.specs.Replies.{compared}
use Rattle.machine.specs.Machine.{Machine, machine_at_start, on_machine}
use Rattle.text.specs.Texts.{text_limit, Readable, Refused}
use Rattle.call.specs.Replay.{count_twos, reason_answer}
use Rattle.listing.specs.Lines.{heading, record_line, settled_line, stop_line, refused_line}
use Rattle.listing.specs.Listing.{listing_room}
use Rattle.listing.specs.Pages.{pages_heading, written_lines}

-- ---- the dumps
-- a chip's dump: its bytes, where there is one
abbrev pub Dump : Type 0
Dump = Option (List ℕ)

pub record Dumps : Type 0 where
  pub flash : Dump
  pub eeprom : Dump

-- as they are handed over
abbrev pub dump_of : Option (Bor (List ℕ)) → Dump
dump_of (Some d) = Some d.now
dump_of None = None

abbrev pub dumps_of : Option (Bor (List ℕ)) → Option (Bor (List ℕ)) → Dumps
dumps_of flash eeprom = record { flash = dump_of flash; eeprom = dump_of eeprom }

abbrev pub dump_at : Chip → Dumps → Dump
dump_at chip d = per_chip d.flash d.eeprom chip

-- 'Without a dump, all is 00 with mask ff'
abbrev pub unknown : Chip → Image
unknown chip = image_of (replicate (kept_bytes chip) 0) (replicate (kept_bytes chip) 255)

-- 'A dump is taken as sure'
abbrev pub image_from : Chip → Dump → Image
image_from chip (Some bytes) = image_of bytes (replicate (kept_bytes chip) 0)
image_from chip None = unknown chip

abbrev pub images_from : Dumps → Images
images_from d = record { flash = image_from Flash d.flash; eeprom = image_from Eeprom d.eeprom }

-- 'one of another length is refusal 1'
abbrev pub taken : Chip → Dump → Bool
taken chip (Some bytes) = eqb (length bytes) (kept_bytes chip)
taken chip None = true

unfoldable pub all_taken : Dumps → Bool
all_taken d = every_chip (λ chip. taken chip (dump_at chip d))

-- ---- the lines
-- a line for each record with its reply: line number, stamp, reply and match. The first of them is record k, which is on line k + 2
unfoldable pub lines_from : ℕ → List Record → List Reply → List ℕ
lines_from k [] ys = []
lines_from k (r ∷ rs) [] = []
lines_from k (r ∷ rs) (y ∷ ys) = record_line (k + 2) r.stamp y (compared r.event y) ++ lines_from (suc k) rs ys

-- last `settled` and count, or `stop`, number and stamp
unfoldable pub verdict_line : Board → List Record → meaning.Answer Machine Reply → List ℕ
verdict_line b rs (meaning.settled v) = settled_line (count_twos rs (shown_at (on_machine b) rs v))
verdict_line b rs (meaning.stopped n t v) = stop_line (answer_number (reason_answer n)) t

-- what is printed of an answer of demand 3 to the records
abbrev pub Kind : Type 0
Kind = Board → List Record → meaning.Answer Machine Reply → List ℕ

-- by `print_replay`: heading, lines, last line; 'Records from a stop's stamp on are left out'
unfoldable pub printed_of : Kind
printed_of b rs (meaning.settled v) = heading ++ (lines_from 0 rs (shown_at (on_machine b) rs v) ++ verdict_line b rs (meaning.settled v))
printed_of b rs (meaning.stopped n t v) =
    let shown = before (on_machine b) t rs in
    heading ++ (lines_from 0 shown (shown_at (on_machine b) shown v) ++ verdict_line b rs (meaning.stopped n t v))

-- by `print_pages`: its heading, the pages written as they are left at the end or before the stop's stamp, and the same last line
unfoldable pub pages_printed_of : Kind
pages_printed_of b rs (meaning.settled v) = pages_heading ++ (written_lines v.state.times ++ verdict_line b rs (meaning.settled v))
pages_printed_of b rs (meaning.stopped n t v) = pages_heading ++ (written_lines v.state.times ++ verdict_line b rs (meaning.stopped n t v))

-- The bytes p are what is printed, in the order of the checks: 'alone `refused`, number, line (0 for 1 and 2)', and fourth the field (0 for all but 3); else what
-- is printed of what demand 3 says of the records, played from the dumps' images.
pub record PrintedAs (of : Kind) (text : List ℕ) (d : Dumps) (p : List ℕ) : Type 0 where
  pub unfit : all_taken d ≡ false → p ≡ refused_line (answer_number BadBuffers) 0 0
  pub long : all_taken d ≡ true → ltb text_limit (length text) ≡ true → p ≡ refused_line (answer_number TooLong) 0 0
  pub bad : all_taken d ≡ true → ltb text_limit (length text) ≡ false → (a : Answer) (n f : ℕ) → Refused text a n f → p ≡ refused_line (answer_number a) n f
  pub played : all_taken d ≡ true → ltb text_limit (length text) ≡ false → (b : Board) (rs : List Record) → Readable text b rs →
      (z : meaning.Answer Machine Reply) × Means (on_machine b) rs (machine_at_start b (images_from d)) z × (p ≡ of b rs z)

abbrev pub Printed : List ℕ → Dumps → List ℕ → Type 0
Printed = PrintedAs printed_of

abbrev pub PagesPrinted : List ℕ → Dumps → List ℕ → Type 0
PagesPrinted = PrintedAs pages_printed_of

-- The bytes w are written out: they stand at the front of the output, the rest of which stays, and n is their number.
pub record Written (w old new : List ℕ) (n : ℕ) : Type 0 where
  pub number : n ≡ length w
  pub content : new ≡ w ++ drop (length w) old

-- What is printed is written out; an output that has no room for any listing stays as it was, and n is 0.
pub record PrintsAs (of : Kind) (text : List ℕ) (d : Dumps) (old new : List ℕ) (n : ℕ) : Type 0 where
  pub printed : List ℕ
  pub is : PrintedAs of text d printed
  pub written : listing_room ≤ length old → Written printed old new n
  pub short : length old < listing_room → (n ≡ 0) × (new ≡ old)

abbrev pub Prints : List ℕ → Dumps → List ℕ → List ℕ → ℕ → Type 0
Prints = PrintsAs printed_of

abbrev pub PrintsPages : List ℕ → Dumps → List ℕ → List ℕ → ℕ → Type 0
PrintsPages = PrintsAs pages_printed_of
