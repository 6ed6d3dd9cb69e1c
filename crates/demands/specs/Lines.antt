-- Believed: Demand 10: writing the lines of a trace in another allowed order changes no answer, no stamp, no count, no byte, no mark, no page's time and no record's reply.
use Rattle.std.specs.Prelude.{◌≡◌, List, [], ◌∷◌, ℕ}
use Rattle.law.specs.Words.{filter}
use Rattle.meaning.specs.Meaning.{Channel, same, Means, after, before}
use Rattle.meaning.specs.Meaning as meaning
use Rattle.meaning.specs.Listing.{said}
use Rattle.record.specs.declared.Board.{Board}
use Rattle.record.specs.declared.Record.{Record}
use Rattle.record.specs.declared.Reply.{Reply}
use Rattle.record.specs.declared.Answer.TheVariants.{Settled}
use Rattle.record.specs.Answers.{answer_number}
use Rattle.times.specs.Times.{time_bytes}
use Rattle.machine.specs.Machine.{Machine, machine_at_start, channel_of, on_machine}
use Rattle.text.specs.Texts.{spelled_trace, Readable}
use Rattle.buffers.specs.Buffers.{Buffers, result_bytes}
use Rattle.call.specs.Replay.{Ended, ended_as, reply_lines, count_twos, padded, reason_answer}
use Rattle.demands.specs.Grounds.{Taken}

-- the answer's number and stamp, and the records that it shows: all, or those before the stop's stamp
abbrev pub number_of : meaning.Answer Machine Reply → ℕ
number_of (meaning.settled v) = answer_number Settled
number_of (meaning.stopped n t v) = answer_number (reason_answer n)

abbrev pub stamp_of : meaning.Answer Machine Reply → ℕ
stamp_of (meaning.settled v) = 0
stamp_of (meaning.stopped n t v) = t

abbrev pub records_of : Board → meaning.Answer Machine Reply → List Record → List Record
records_of b (meaning.settled v) rs = rs
records_of b (meaning.stopped n t v) rs = before (on_machine b) t rs

-- the number n, the stamp t, and what is left when the records ps were played on m as they are written
unfoldable pub left_by : Board → ℕ → ℕ → List Record → Machine → Ended
left_by b n t ps m =
    ended_as n
    (record {
      images = (after (on_machine b) ps m).images;
      times = time_bytes (after (on_machine b) ps m).times;
      replies = padded (reply_lines ps (said (on_machine b) ps m));
      result = result_bytes n t (count_twos ps (said (on_machine b) ps m)) 0;
    })

-- a record with its reply
abbrev pub Replied : Type 0
Replied = Record × Reply

unfoldable pub paired : List Record → List Reply → List Replied
paired [] ys = []
paired (r ∷ rs) [] = []
paired (r ∷ rs) (y ∷ ys) = (r, y) ∷ paired rs ys

-- records played as they are written, each with its reply: those of one channel, in the channel's own order
abbrev pub channel_in : Replied → Channel
channel_in a = channel_of a.0.event

abbrev pub replied_of : Channel → Board → List Record → Machine → List Replied
replied_of c b ps m = filter (λ (a : Replied). same c (channel_in a)) (paired ps (said (on_machine b) ps m))

-- two calls say the same: the answer, the result (the answer again, the line or stamp, the count, the field), all bytes and all marks, and the time of every page
pub record SameReplay (e e' : Ended) : Type 0 where
  pub answer : e'.answer ≡ e.answer
  pub result : e'.buffers.result ≡ e.buffers.result
  pub images : e'.buffers.images ≡ e.buffers.images
  pub times : e'.buffers.times ≡ e.buffers.times

-- e is the outcome for a text that is the spelling of b and rs, e' for the lines ls, which are rs in another allowed order
pub record Reordered (text : List ℕ) (x : Buffers) (b : Board) (rs ls : List Record) (e e' : Ended) : Type 0 where
  -- the reordered lines are a readable text
  pub lines_readable : Readable (spelled_trace b ls) b ls
  -- whatever buffers are lent: the same answer, line or stamp, count, field, bytes, marks and times
  pub order_of_lines : SameReplay e e'
  -- the demand admits one answer z for both; and each record's reply follows it: of the records that are shown, played as they are written, each channel has the same records with the same replies
  pub replies_follow : Taken text x b rs →
      (z : meaning.Answer Machine Reply)
      × Means (on_machine b) rs (machine_at_start b x.images) z
      × Means (on_machine b) ls (machine_at_start b x.images) z
      × (e ≡ left_by b (number_of z) (stamp_of z) (records_of b z rs) (machine_at_start b x.images))
      × (e' ≡ left_by b (number_of z) (stamp_of z) (records_of b z ls) (machine_at_start b x.images))
      × ((c : Channel) → replied_of c b (records_of b z ls) (machine_at_start b x.images) ≡ replied_of c b (records_of b z rs) (machine_at_start b x.images))
