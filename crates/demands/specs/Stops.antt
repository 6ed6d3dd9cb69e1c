-- Believed: Demands 3 to 6, of a text that is taken: where the call stops and why, what it shows, that nothing is forgiven, and what 7 means.
use Rattle.std.specs.Prelude.{◌≡◌, ◌↔◌, List, ℕ, ◌≤◌}
use Rattle.meaning.specs.Meaning.{Reason, differ, Allowed, after, outcome, before, upto, Alike, Passes, Differ, Holds, Earliest}
use Rattle.meaning.specs.Listing.{shown_at}
use Rattle.record.specs.declared.Board.{Board}
use Rattle.record.specs.declared.Record.{Record}
use Rattle.record.specs.Answers.{answer_number}
use Rattle.field.specs.Decimal.{largest}
use Rattle.times.specs.Times.{time_bytes}
use Rattle.machine.specs.Machine.{Machine, machine_at_start, on_machine}
use Rattle.buffers.specs.Buffers.{Buffers, result_bytes}
use Rattle.call.specs.Replay.{Ended, reply_lines, count_twos, padded, reason_answer}

-- the call says n at the stamp t: the answer is n's number, and the result holds the stamp, which a record can have, behind it, then a count, and no field
pub record StopsAt (e : Ended) (n : Reason) (t : ℕ) : Type 0 where
  pub answer : e.answer ≡ answer_number (reason_answer n)
  pub stamp : t ≤ largest
  pub count : ℕ
  pub result : e.buffers.result ≡ result_bytes (answer_number (reason_answer n)) t count 0

-- The buffers hold how the order o of the records rs, played from s, ends: both images with their masks; the table of the pages' times; for each record of rs, in the order of the lines, the four bytes of the reply that it has in o, and 0 behind; and the answer, the number t, how many of these replies disagree, and no field.
pub record Shows (b : Board) (t : ℕ) (rs o : List Record) (s : Machine) (e : Ended) : Type 0 where
  pub images : e.buffers.images ≡ (after (on_machine b) o s).images
  pub times : e.buffers.times ≡ time_bytes (after (on_machine b) o s).times
  pub replies : e.buffers.replies ≡ padded (reply_lines rs (shown_at (on_machine b) rs (outcome (on_machine b) o s)))
  pub result : e.buffers.result ≡ result_bytes e.answer t (count_twos rs (shown_at (on_machine b) rs (outcome (on_machine b) o s))) 0

module _ (x : Buffers) (e : Ended) (b : Board) (rs : List Record) where
  -- the start, with the images as they are lent
  abbrev start : Machine
  start = machine_at_start b x.images

  pub record Stops : Type 0 where
    -- 3. it stops at t with the reason n exactly when t is the earliest stamp with a reason, and n the first that holds there; it settles exactly when no stamp has one
    pub stops_earliest : (n : Reason) (t : ℕ) → StopsAt e n t ↔ Earliest (on_machine b) rs start n t
    pub settled_means : (e.answer ≡ 0) ↔ ((t : ℕ) → Passes (on_machine b) rs start t)
    -- 4. what it shows is how every allowed order ends, of all records or of those before the stop's stamp
    pub settled_shows : e.answer ≡ 0 → (o : List Record) → Allowed (on_machine b) rs o → Shows b 0 rs o start e
    pub stop_shows : (n : Reason) (t : ℕ) → StopsAt e n t → (o : List Record) → Allowed (on_machine b) (before (on_machine b) t rs) o → Shows b t (before (on_machine b) t rs) o start e
    -- and any two of these orders end alike in all that the machine is: both chips' states, the lines, the images, the pages' times and every reply
    pub settled_alike : e.answer ≡ 0 → Alike (on_machine b) rs start
    pub stop_alike : (n : Reason) (t : ℕ) → StopsAt e n t → Alike (on_machine b) (before (on_machine b) t rs) start
    -- 5. a reason at a stamp u is never forgiven by what comes after: the call stops there or before; two orders that differ by u are such a reason
    pub reason_stays : (k : Reason) (u : ℕ) → Holds (on_machine b) rs start k u → (n : Reason) × (t : ℕ) × (t ≤ u) × StopsAt e n t
    pub not_forgiven : (u : ℕ) → Differ (on_machine b) rs start u → (n : Reason) × (t : ℕ) × (t ≤ u) × StopsAt e n t
    -- 6. 7 is said where two allowed orders of the records so far differ: there are two
    pub differ_means_two : e.answer ≡ 7 →
        (t : ℕ) × StopsAt e differ t × (o : List Record) × (w : List Record) × Allowed (on_machine b) (upto (on_machine b) t rs) o × Allowed (on_machine b) (upto (on_machine b) t rs) w × (outcome (on_machine b) o start ≡ outcome (on_machine b) w start → ⊥)
