-- Writing the lines of a trace in another allowed order changes no answer, no stamp, no count, no byte, no mark, no page's time and no record's reply.
use mathlib.Core.Path.{◌≡◌, refl, sym, ap, ap₂, subst, subst₂, ◌∙◌}
use mathlib.Core.Bool.{Bool, true, false}
use mathlib.Core.List.{List, [], ◌∷◌}
use Prim.Native.Nat.{ℕ, ◌+◌}
use lib.Dec.{ltb}
use lib.ListN.{length}
use Rattle.law.specs.Choice.{split}
use Rattle.law.specs.Words.{keep, filter}
use Rattle.meaning.specs.Meaning.{Channel, same, Outcome, of, Allowed, NeverBack, Agreed, Means, after, replies, outcome}
use Rattle.meaning.specs.Meaning as meaning
use Rattle.meaning.specs.Channels.{sum}
use Rattle.meaning.proofs.Sums.{total, total_apart, total_same}
use Rattle.meaning.proofs.Allowing.{allowed_part, itself, back_filter}
use Rattle.meaning.specs.Listing.{said}
use Rattle.meaning.proofs.Answers as answers
use Rattle.record.specs.declared.Board.{Board}
use Rattle.record.specs.declared.Record.{Record}
use Rattle.record.specs.declared.Reply.{Reply}
use Rattle.times.specs.Times.{time_bytes}
use Rattle.machine.specs.Replies.{compared}
use Rattle.machine.specs.Machine.{Machine, machine_at_start, channel_of, on_machine, play_on, says_on}
use Rattle.text.specs.Texts.{text_limit, spelled_trace, Readable}
use Rattle.buffers.specs.Buffers.{Buffers, fit, result_bytes}
use Rattle.call.specs.Play.{twos}
use Rattle.call.specs.Replay.{Ended, count_twos, shown, Replays}
use Rattle.demands.proofs.Readable.{readable_back}
use Rattle.demands.specs.Lines.{number_of, stamp_of, records_of, left_by, Replied, paired, channel_in, replied_of, SameReplay}
use Rattle.demands.proofs.Shown.{outcome_of, left_shown}
use Rattle.demands.proofs.Rewritten.{lines_readable, lines_length}

-- ---- a channel's records with their replies are told by the channel's records and the channel's replies
keep_paired : (t : Bool) (r : Record) (y : Reply) (rs : List Record) (ys : List Reply) → keep t (r, y) (paired rs ys) ≡ paired (keep t r rs) (keep t y ys)
unfolding keep paired
keep_paired true r y rs ys = refl
keep_paired false r y rs ys = refl

replied_is : (c : Channel) (b : Board) (ps : List Record) (m : Machine) → replied_of c b ps m ≡ paired (of (on_machine b) c ps) (replies (on_machine b) c ps m)
unfolding filter said paired replies
replied_is c b [] m = refl
replied_is c b (r ∷ ps) m =
    ap (keep (same c (channel_of r.event)) (r, says_on b m r)) (replied_is c b ps (play_on b m r))
    ∙ keep_paired (same c (channel_of r.event)) r (says_on b m r) (of (on_machine b) c ps) (replies (on_machine b) c ps (play_on b m r))

-- ---- the count is a sum over the records with their replies
weight : Replied → ℕ
weight a = twos (compared a.0.event a.1)

count_total : (rs : List Record) (ys : List Reply) → count_twos rs ys ≡ total channel_in weight (paired rs ys)
unfolding count_twos total paired weight
count_total [] ys = refl
count_total (r ∷ rs) [] = refl
count_total (r ∷ rs) (y ∷ ys) = ap (λ (n : ℕ). twos (compared r.event y) + n) (count_total rs ys)

-- of records played as they are written it is the sum over the channels, each with its own replies
pub count_channels : (b : Board) (ps : List Record) (m : Machine) → count_twos ps (said (on_machine b) ps m) ≡ sum (λ c. count_twos (of (on_machine b) c ps) (replies (on_machine b) c ps m))
count_channels b ps m = count_total ps (said (on_machine b) ps m) ∙ total_apart channel_in weight (paired ps (said (on_machine b) ps m)) ∙ (λ i. sum (λ c. one c i))
  where
    one : (c : Channel) → total channel_in weight (replied_of c b ps m) ≡ count_twos (of (on_machine b) c ps) (replies (on_machine b) c ps m)
    one c = ap (total channel_in weight) (replied_is c b ps m) ∙ sym (count_total (of (on_machine b) c ps) (replies (on_machine b) c ps m))

-- ---- ps and qs are records in two allowed orders that end alike
module _ (b : Board) (ps qs : List Record) (m : Machine) (keeps : (c : Channel) → of (on_machine b) c qs ≡ of (on_machine b) c ps) (alike : outcome (on_machine b) qs m ≡ outcome (on_machine b) ps m) where
  replied_same : (c : Channel) → replied_of c b qs m ≡ replied_of c b ps m
  replied_same c =
      replied_is c b qs m
      ∙ ap₂ paired (keeps c) (ap (λ (v : Outcome Machine Reply). v.replies c) alike)
      ∙ sym (replied_is c b ps m)

  state_same : after (on_machine b) qs m ≡ after (on_machine b) ps m
  state_same = ap (λ (v : Outcome Machine Reply). v.state) alike

  count_same : count_twos qs (said (on_machine b) qs m) ≡ count_twos ps (said (on_machine b) ps m)
  count_same =
      count_total qs (said (on_machine b) qs m)
      ∙ total_same channel_in weight (paired qs (said (on_machine b) qs m)) (paired ps (said (on_machine b) ps m)) replied_same
      ∙ sym (count_total ps (said (on_machine b) ps m))

  -- all but the replies' places
  left_same : (n t : ℕ) → SameReplay (left_by b n t ps m) (left_by b n t qs m)
  unfolding left_by
  left_same n t = record {
    answer = refl;
    result = ap (λ (c : ℕ). result_bytes n t c 0) count_same;
    images = ap (λ (s : Machine). s.images) state_same;
    times = ap (λ (s : Machine). time_bytes s.times) state_same;
  }

-- ---- what an answer shows of rs and of ls
module _ (b : Board) (rs ls : List Record) (a : Allowed (on_machine b) rs ls) (back : NeverBack (on_machine b) rs) (m : Machine) where
  shown_allowed : (z : meaning.Answer Machine Reply) → Allowed (on_machine b) (records_of b z rs) (records_of b z ls)
  shown_allowed (meaning.settled v) = a
  shown_allowed (meaning.stopped n t v) = allowed_part (on_machine b) _ rs ls a

  shown_agreed : (z : meaning.Answer Machine Reply) → Means (on_machine b) rs m z → Agreed (on_machine b) (records_of b z rs) m (outcome_of z)
  unfolding Means
  shown_agreed (meaning.settled v) h = h.1
  shown_agreed (meaning.stopped n t v) h = h.1

  shown_back : (z : meaning.Answer Machine Reply) → NeverBack (on_machine b) (records_of b z rs)
  shown_back (meaning.settled v) = back
  shown_back (meaning.stopped n t v) = back_filter (on_machine b) _ rs back

  shown_alike : (z : meaning.Answer Machine Reply) → Means (on_machine b) rs m z → outcome (on_machine b) (records_of b z ls) m ≡ outcome (on_machine b) (records_of b z rs) m
  unfolding Agreed
  shown_alike z h =
      let k = shown_agreed z h in
      k (records_of b z ls) (shown_allowed z) ∙ sym (k (records_of b z rs) (itself (on_machine b) (records_of b z rs) (shown_back z)))

-- ---- the calls: e for the text, e' for the same lines in another allowed order
module _ {text : List ℕ} {x : Buffers} {e e' : Ended} {b : Board} {rs ls : List Record}
    (q : Readable text b rs) (a : Allowed (on_machine b) rs ls) (p : Replays text x e) (p' : Replays (spelled_trace b ls) x e') where
  abbrev start : Machine
  start = machine_at_start b x.images

  within : (t : Bool) → ltb text_limit (length text) ≡ t → ltb text_limit (length (spelled_trace b ls)) ≡ t
  within t l = ap (ltb text_limit) (lines_length b rs ls a ∙ sym (ap length q.is)) ∙ l

  -- the demand admits one answer z for both orders of the lines: e shows it of rs, e' of ls
  pub one_answer : fit x ≡ true → ltb text_limit (length text) ≡ false →
      (z : meaning.Answer Machine Reply) × Means (on_machine b) rs start z × Means (on_machine b) ls start z × (e ≡ shown b rs z) × (e' ≡ shown b ls z)
  one_answer f l =
      let z = p.played f l b rs q in
      let y = p'.played f (within false l) b ls (lines_readable b rs ls a q) in
      let same = answers.order_of_lines (on_machine b) rs start z.0 z.1 (readable_back q) ls a y.0 y.1 in
      (z.0, z.1, subst (Means (on_machine b) ls start) same y.1, z.2, y.2 ∙ ap (shown b ls) same)

  -- each record's reply follows it: of the records that are shown, played as they are written, each channel has the same records with the same replies
  pub replies_follow : fit x ≡ true → ltb text_limit (length text) ≡ false →
      (z : meaning.Answer Machine Reply) × Means (on_machine b) rs start z × Means (on_machine b) ls start z
      × (e ≡ left_by b (number_of z) (stamp_of z) (records_of b z rs) start)
      × (e' ≡ left_by b (number_of z) (stamp_of z) (records_of b z ls) start)
      × ((c : Channel) → replied_of c b (records_of b z ls) start ≡ replied_of c b (records_of b z rs) start)
  replies_follow f l =
      let z = one_answer f l in
      let back = readable_back q in (
        z.0,
        z.1,
        z.2,
        z.3 ∙ left_shown b rs back start z.0 z.1,
        z.4 ∙ left_shown b ls a.onward start z.0 z.2,
        replied_same b (records_of b z.0 rs) (records_of b z.0 ls) start (shown_allowed b rs ls a back start z.0).keeps (shown_alike b rs ls a back start z.0 z.1),
      )

  refused_same : e ≡ e' → SameReplay e e'
  refused_same k = record {
    answer = ap (λ (w : Ended). w.answer) (sym k);
    result = ap (λ (w : Ended). w.buffers.result) (sym k);
    images = ap (λ (w : Ended). w.buffers.images) (sym k);
    times = ap (λ (w : Ended). w.buffers.times) (sym k);
  }

  played_same : fit x ≡ true → ltb text_limit (length text) ≡ false → SameReplay e e'
  played_same f l =
      let z = one_answer f l in
      let back = readable_back q in
      let same = left_same b (records_of b z.0 rs) (records_of b z.0 ls) start (shown_allowed b rs ls a back start z.0).keeps (shown_alike b rs ls a back start z.0 z.1)
      (number_of z.0) (stamp_of z.0) in
      subst₂ SameReplay (sym (z.3 ∙ left_shown b rs back start z.0 z.1)) (sym (z.4 ∙ left_shown b ls a.onward start z.0 z.2)) same

  -- whatever buffers are lent: the same answer, line or stamp, count, bytes, marks and times
  pub order_of_lines : SameReplay e e'
  order_of_lines =
      split (fit x)
      (λ f. split (ltb text_limit (length text)) (λ l. refused_same (p.long f l ∙ sym (p'.long f (within true l)))) (λ l. played_same f l))
      (λ f. refused_same (p.unfit f ∙ sym (p'.unfit f)))
