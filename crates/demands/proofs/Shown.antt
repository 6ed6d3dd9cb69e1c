-- What the call leaves for a readable text, in one form for settled and stops: some of the records, played as they are written, leave these images, these times and these replies.
use mathlib.Core.Path.{◌≡◌, refl, ap₂, ◌∙◌}
use mathlib.Core.Bool.{true, false}
use mathlib.Core.List.{List}
use Prim.Native.Nat.{ℕ}
use lib.Dec.{ltb}
use lib.ListN.{length}
use Rattle.meaning.specs.Meaning.{Outcome, Means, NeverBack, after, before}
use Rattle.meaning.specs.Meaning as meaning
use Rattle.meaning.proofs.Allowing.{back_filter}
use Rattle.meaning.specs.Listing.{said, shown_at}
use Rattle.meaning.proofs.Listing.{agreed_lines}
use Rattle.record.specs.declared.Board.{Board}
use Rattle.record.specs.declared.Record.{Record}
use Rattle.record.specs.declared.Reply.{Reply}
use Rattle.times.specs.Times.{time_bytes}
use Rattle.machine.specs.Machine.{Machine, machine_at_start, on_machine}
use Rattle.text.specs.Texts.{text_limit, Readable}
use Rattle.buffers.specs.Buffers.{Buffers, fit, result_bytes}
use Rattle.call.specs.Replay.{Ended, ended_as, reply_lines, count_twos, padded, shown_as, shown, Replays}
use Rattle.demands.specs.Lines.{number_of, stamp_of, records_of, left_by}
use Rattle.demands.proofs.Readable.{readable_back}

-- how the records end that an answer shows
abbrev pub outcome_of : meaning.Answer Machine Reply → Outcome Machine Reply
outcome_of (meaning.settled v) = v
outcome_of (meaning.stopped n t v) = v

pub shown_is : (b : Board) (rs : List Record) (z : meaning.Answer Machine Reply) → shown b rs z ≡ shown_as b (number_of z) (stamp_of z) (records_of b z rs) (outcome_of z)
unfolding shown
shown_is b rs (meaning.settled v) = refl
shown_is b rs (meaning.stopped n t v) = refl

module _ (b : Board) (rs : List Record) (back : NeverBack (on_machine b) rs) (m : Machine) where
  -- the outcome is that of the shown records as they are written
  pub means_lines : (z : meaning.Answer Machine Reply) → Means (on_machine b) rs m z →
      ((outcome_of z).state ≡ after (on_machine b) (records_of b z rs) m) × (shown_at (on_machine b) (records_of b z rs) (outcome_of z) ≡ said (on_machine b) (records_of b z rs) m)
  unfolding Means
  means_lines (meaning.settled v) h = agreed_lines (on_machine b) rs back m v h.1
  means_lines (meaning.stopped n t v) h = agreed_lines (on_machine b) (before (on_machine b) t rs) (back_filter (on_machine b) _ rs back) m v h.1

pub left_shown : (b : Board) (rs : List Record) → NeverBack (on_machine b) rs → (m : Machine) (z : meaning.Answer Machine Reply) → Means (on_machine b) rs m z →
    shown b rs z ≡ left_by b (number_of z) (stamp_of z) (records_of b z rs) m
unfolding shown_as left_by
left_shown b rs back m z h =
    let k = means_lines b rs back m z h in
    let ps = records_of b z rs in
    shown_is b rs z
    ∙ ap₂ (λ (s : Machine) (ys : List Reply). ended_as (number_of z) (record { images = s.images; times = time_bytes s.times; replies = padded (reply_lines ps ys); result = result_bytes (number_of z) (stamp_of z) (count_twos ps ys) 0 })) k.0 k.1

-- the same of the call
pub call_left : {text : List ℕ} {x : Buffers} {e : Ended} {b : Board} {rs : List Record} → Replays text x e → fit x ≡ true → ltb text_limit (length text) ≡ false → Readable text b rs →
    (z : meaning.Answer Machine Reply) × Means (on_machine b) rs (machine_at_start b x.images) z
    × (e ≡ left_by b (number_of z) (stamp_of z) (records_of b z rs) (machine_at_start b x.images))
call_left {text} {x} {e} {b} {rs} p f l q =
    let z = p.played f l b rs q in
    (z.0, z.1, z.2 ∙ left_shown b rs (readable_back q) _ z.0 z.1)
