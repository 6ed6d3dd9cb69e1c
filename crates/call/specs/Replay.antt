-- Believed: What the call answers and leaves (document 01, 'Replies and stopping', the table and what follows it; document 02, requests 1/12 and 2/12).
use Rattle.std.specs.Prelude.{◌≡◌, true, false, ◌⊎◌, List, [], ◌∷◌, ◌++◌, ℕ, ◌+◌, ◌-◌, eqb, ltb, length, replicate}
use Rattle.law.specs.Words.{pick}
use Rattle.meaning.specs.Meaning.{Reason, crowded, differ, lost, Outcome, Means, before}
use Rattle.meaning.specs.Meaning as meaning
use Rattle.meaning.specs.Listing.{shown_at}
use Rattle.record.specs.declared.Board.{Board}
use Rattle.record.specs.declared.Record.{Record}
use Rattle.record.specs.declared.Reply.{Reply}
use Rattle.record.specs.declared.Answer.{Answer}
use Rattle.record.specs.declared.Answer.TheVariants.{Settled, BadBuffers, TooLong, Crowded, OrdersDiffer, StatusLost}
use Rattle.record.specs.Answers.{answer_number}
use Rattle.record.specs.declared.Chip.{Chip}
use Rattle.record.specs.declared.Chip.TheVariants.{Flash, Eeprom}
use Rattle.times.specs.Times.{time_bytes}
use Rattle.machine.specs.Replies.{compared}
use Rattle.machine.specs.Machine.{Machine, machine_at_start, on_machine}
use Rattle.text.specs.Texts.{text_limit, Readable, Refused}
use Rattle.record.specs.Lengths.{replies_length}
use Rattle.buffers.specs.Buffers.{Buffers, fit, result_bytes, result_after}
use Rattle.call.specs.Play.{twos, reply_line}

-- the answer, and what is in the buffers
pub record Ended : Type 0 where
  pub answer : ℕ
  pub buffers : Buffers

abbrev pub ended_as : ℕ → Buffers → Ended
ended_as n x = record { answer = n; buffers = x }

-- refusals 1 to 5 leave all untouched but the result: the answer, the line (0 for 1 and 2), no count, and the field (0 for all but 3)
unfoldable pub refused_as : Answer → ℕ → ℕ → Buffers → Ended
refused_as a line field x =
    ended_as (answer_number a)
    (record { images = x.images; times = x.times; replies = x.replies; result = result_after (answer_number a) line 0 field x.result })

-- the replies to the records, four bytes each, in the order of the lines
unfoldable pub reply_lines : List Record → List Reply → List ℕ
reply_lines [] ys = []
reply_lines (r ∷ rs) [] = []
reply_lines (r ∷ rs) (y ∷ ys) = reply_line r y ++ reply_lines rs ys

-- the count is the number of matches 2
unfoldable pub count_twos : List Record → List Reply → ℕ
count_twos [] ys = 0
count_twos (r ∷ rs) [] = 0
count_twos (r ∷ rs) (y ∷ ys) = twos (compared r.event y) + count_twos rs ys

-- 'others 0'
unfoldable pub padded : List ℕ → List ℕ
padded w = w ++ replicate (replies_length - length w) 0

-- the number n, the stamp t, and what v shows of the records rs; no field is bad
unfoldable pub shown_as : Board → ℕ → ℕ → List Record → Outcome Machine Reply → Ended
shown_as b n t rs v =
    ended_as n
    (record {
      images = v.state.images;
      times = time_bytes v.state.times;
      replies = padded (reply_lines rs (shown_at (on_machine b) rs v));
      result = result_bytes n t (count_twos rs (shown_at (on_machine b) rs v)) 0;
    })

abbrev pub reason_answer : Reason → Answer
reason_answer crowded = Crowded
reason_answer differ = OrdersDiffer
reason_answer lost = StatusLost

-- 0 leaves the end state, with the times of all pages, and all replies; 6, 7, 8 those before that stamp
unfoldable pub shown : Board → List Record → meaning.Answer Machine Reply → Ended
shown b rs (meaning.settled v) = shown_as b (answer_number Settled) 0 rs v
shown b rs (meaning.stopped n t v) = shown_as b (answer_number (reason_answer n)) t (before (on_machine b) t rs) v

-- The order of the checks: 1, 2, then the first bad line, then by stamp. A readable text is answered as demand 3 says: z is what the demand admits. Every text is readable or has a first bad line.
pub record Replays (text : List ℕ) (x : Buffers) (e : Ended) : Type 0 where
  pub unfit : fit x ≡ false → e ≡ refused_as BadBuffers 0 0 x
  pub long : fit x ≡ true → ltb text_limit (length text) ≡ true → e ≡ refused_as TooLong 0 0 x
  pub bad : fit x ≡ true → ltb text_limit (length text) ≡ false → (a : Answer) (n f : ℕ) → Refused text a n f → e ≡ refused_as a n f x
  pub played : fit x ≡ true → ltb text_limit (length text) ≡ false → (b : Board) (rs : List Record) → Readable text b rs →
      (z : meaning.Answer Machine Reply) × Means (on_machine b) rs (machine_at_start b x.images) z × (e ≡ shown b rs z)
  pub read : fit x ≡ true → ltb text_limit (length text) ≡ false → ((b : Board) × (rs : List Record) × Readable text b rs) ⊎ ((a : Answer) × (n : ℕ) × (f : ℕ) × Refused text a n f)

-- for a C caller 0 is the flash, any other number the EEPROM
abbrev pub chip_of : ℕ → Chip
chip_of n = pick (eqb n 0) Flash Eeprom
