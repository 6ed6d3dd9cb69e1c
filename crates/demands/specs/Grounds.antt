-- Believed: Demands 1 and 2: each answer has its exact ground, and a refusal leaves all else untouched (document 01, 'Replies and stopping', the table; document 02, requests 1/12 and 2/12).
-- Said of a text, the buffers x as lent, and any outcome e that the promise of the exported call admits.
use Rattle.std.specs.Prelude.{◌≡◌, true, false, ◌↔◌, List, ℕ, ◌≤◌, ◌<◌, length, drop}
use Rattle.meaning.specs.Meaning.{Reason, Passes, Earliest}
use Rattle.record.specs.declared.Answer.{Answer}
use Rattle.record.specs.declared.Answer.TheVariants.{BadLine, BackInTime, Impossible}
use Rattle.record.specs.declared.Board.{Board}
use Rattle.record.specs.declared.Record.{Record}
use Rattle.record.specs.Answers.{answer_number}
use Rattle.record.specs.Lengths.{result_length}
use Rattle.record.specs.Word.{word}
use Rattle.field.specs.Decimal.{largest}
use Rattle.machine.specs.Machine.{machine_at_start, on_machine}
use Rattle.text.specs.Texts.{text_limit, Readable, Refused}
use Rattle.buffers.specs.Buffers.{Buffers, fit, result_bytes}
use Rattle.call.specs.Replay.{Ended, ended_as, refused_as, reason_answer}

-- the refusals that name a line
pub data OfLine : Answer → Type 0 where
  three : OfLine BadLine
  four : OfLine BackInTime
  five : OfLine Impossible

-- the buffers fit, the text is within the limit, and it is the spelling of b and rs
pub record Taken (text : List ℕ) (x : Buffers) (b : Board) (rs : List Record) : Type 0 where
  pub fits : fit x ≡ true
  pub within : length text ≤ text_limit
  pub readable : Readable text b rs

pub record Grounds (text : List ℕ) (x : Buffers) (e : Ended) : Type 0 where
  -- 1 exactly where the buffers do not fit
  pub bad_buffers : (e.answer ≡ 1) ↔ (fit x ≡ false)
  -- 2 exactly where they fit and the text is over 65,536
  pub too_long : (e.answer ≡ 2) ↔ ((fit x ≡ true) × (text_limit < length text))
  -- 3, 4, 5 exactly where neither holds and the first bad line is one of that kind
  pub wrong_form : (e.answer ≡ 3) ↔ ((fit x ≡ true) × (length text ≤ text_limit) × (n : ℕ) × (f : ℕ) × Refused text BadLine n f)
  pub back_in_time : (e.answer ≡ 4) ↔ ((fit x ≡ true) × (length text ≤ text_limit) × (n : ℕ) × Refused text BackInTime n 0)
  pub impossible : (e.answer ≡ 5) ↔ ((fit x ≡ true) × (length text ≤ text_limit) × (n : ℕ) × Refused text Impossible n 0)
  -- the line that the result names is the first bad line, the field that of its refusal, and no others
  pub first_bad_line : fit x ≡ true → length text ≤ text_limit → (a : Answer) → OfLine a → (n f : ℕ) → ((n ≤ largest) × (f ≤ largest) × (e ≡ refused_as a n f x)) ↔ Refused text a n f
  -- 'the last four the field or 0': 3 comes with the first bad line n and the number f of its first bad field, counted from 1
  pub bad_field : e.answer ≡ 3 → (n : ℕ) × (f : ℕ) × Refused text BadLine n f × (1 ≤ f) × (e.buffers.result ≡ result_bytes 3 n 0 f)
  -- every other answer comes with field 0, in a result of its length
  pub no_field : (e.answer ≡ 3 → ⊥) → length x.result ≡ result_length → drop 12 e.buffers.result ≡ word 0
  -- 0 exactly for a text that is taken and in which no stamp has a reason
  pub settled : (e.answer ≡ 0) ↔ ((b : Board) × (rs : List Record) × Taken text x b rs × ((t : ℕ) → Passes (on_machine b) rs (machine_at_start b x.images) t))
  -- 6, 7, 8 exactly for a text that is taken and in which that reason is the first at the earliest stamp that has one
  pub stopped : (n : Reason) → (e.answer ≡ answer_number (reason_answer n)) ↔ ((b : Board) × (rs : List Record) × Taken text x b rs × (t : ℕ) × Earliest (on_machine b) rs (machine_at_start b x.images) n t)
  -- there is no other answer
  pub no_other : e.answer ≤ 8

-- the images with their masks, the table of times and the replies are as they were lent
pub record Untouched (x : Buffers) (e : Ended) : Type 0 where
  pub images : e.buffers.images ≡ x.images
  pub times : e.buffers.times ≡ x.times
  pub replies : e.buffers.replies ≡ x.replies

pub record Refusals (x : Buffers) (e : Ended) : Type 0 where
  -- 1 to 5 leave all untouched but the result
  pub untouched : 1 ≤ e.answer → e.answer ≤ 5 → Untouched x e
  -- 'with a wrong length nothing is written there': nothing is written anywhere
  pub wrong_result_length : (length x.result ≡ result_length → ⊥) → e ≡ ended_as 1 x
