-- The loop over the stamps: what holds when it comes to a stamp, and how it ends. By Walk: each stamp that passes puts its outcome behind what was shown.
use mathlib.Core.Path.{◌≡◌, refl, sym, ap, ap₂, subst, ◌∙◌}
use mathlib.Core.Bool.{true, false}
use mathlib.Core.Logic.{◌⊎◌, inl, inr}
use mathlib.Core.List.{List, [], ◌∷◌, ◌++◌, append_assoc, append-nil}
use Prim.Native.Nat.{ℕ, ◌+◌, ◌-◌, ◌*◌, ◌≤◌, ◌<◌, min}
use native.Mathlib.Omega.{arith}
use lib.ListN.{length, take, drop, replicate, length-append, length-replicate}
use Rattle.law.specs.Choice.{true_not_false}
use Rattle.law.specs.Lists.{all_map, all_append, all_behind, front_in}
use Rattle.law.specs.Words.{All}
use Rattle.meaning.specs.Meaning.{most, Reason, crowded, differ, lost, of, NeverBack, after, outcome, before, Means}
use Rattle.meaning.specs.Meaning as meaning
use Rattle.meaning.specs.Channels.{sum, most_in_all}
use Rattle.meaning.proofs.Sums.{sum_most, length_apart}
use Rattle.meaning.proofs.Steps.{outcome_append, before_here, means_crowded, means_differ, means_lost}
use Rattle.meaning.proofs.Walk.{Reached, reached_start, reached_stamp, reached_stop, reached_end, run_above, back_behind}
use Rattle.meaning.specs.Listing.{said, shown_at}
use Rattle.meaning.proofs.Listing.{laid_said}
use borrow.Author.Tests.{lt-ltb}
use Rattle.record.specs.declared.Board.{Board}
use Rattle.record.specs.declared.Record.{Record}
use Rattle.record.specs.declared.Reply.{Reply}
use Rattle.record.specs.declared.Answer.{Answer}
use Rattle.record.specs.Answers.{answer_number}
use Rattle.controls.specs.declared.Controls.{Controls}
use Rattle.controls.specs.Play.{start_of, lost_of}
use Rattle.image.specs.Images.{Images}
use Rattle.line.specs.Boards.{spelled_board}
use Rattle.line.specs.Records.{RecordOk}
use Rattle.orders.specs.declared.Verdict.{Verdict}
use Rattle.orders.specs.declared.Verdict.TheVariants as verdict
use Rattle.orders.specs.Verdicts.{Few, Judged, verdict_answer}
use Rattle.machine.specs.Machine.{Machine, machine_at_start, on_machine, channel_of}
use Rattle.text.specs.Texts.{spelled_all, Readable}
use Rattle.text.proofs.Theorems.{first_place_lem, at_end}
use Rattle.enough.specs.Enough.{Good}
use Rattle.enough.proofs.Enough.{good_start, good_after, holds_all, few_each, too_many, not_crowded, agree_alike, alike_agree, as_written, lost_as}
use Rattle.record.specs.Lengths.{replies_length}
use Rattle.times.specs.Times.{never_written, times_length, time_bytes}
use Rattle.times.proofs.Spelled.{never_spelled}
use Rattle.buffers.specs.Buffers.{result_bytes}
use Rattle.stamps.specs.declared.Judgement.{Judgement}
use Rattle.stamps.proofs.Found.{Found}
use Rattle.call.specs.Steps.{Desk, desk_of, run_desk}
use Rattle.call.specs.Replay.{Ended, ended_as, reply_lines, count_twos, padded, shown_as, shown, reason_answer}
use Rattle.call.specs.Run.{ended_with, goes_on}
use Rattle.call.proofs.Playing.{machine_on, run_machine, run_times, run_append, run_count, run_replies}

-- ---- what is shown of records played as they are written
module _ (b : Board) (lent : Images) where
  abbrev pub started : Desk
  started = desk_of (start_of b) lent (replicate times_length 0) (replicate replies_length 0) 0 0

  abbrev pub start : Machine
  start = machine_at_start b lent

  lines_long : (o : List Record) (s : Machine) → length (reply_lines o (said (on_machine b) o s)) ≡ 4 * length o
  unfolding reply_lines said
  lines_long [] s = refl
  lines_long (r ∷ o) s = let ih = lines_long o ((on_machine b).play s r) in omega arith

  -- the desk holds the machine after the records
  pub desk_is : (o : List Record) (d : Desk) → d ≡ run_desk b o started → machine_on b d (after (on_machine b) o start).times ≡ after (on_machine b) o start
  desk_is o d p = ap (λ (x : Desk). machine_on b x (after (on_machine b) o start).times) p ∙ run_machine b o started never_written

  pub shows : (n t : ℕ) (o : List Record) (d : Desk) → d ≡ run_desk b o started → 4 * length o ≤ replies_length →
      ended_as n (record { images = d.images; times = d.times; replies = d.replies; result = result_bytes n t d.count 0 }) ≡ shown_as b n t o (outcome (on_machine b) o start)
  unfolding shown_as padded
  shows n t o d p l =
      let m = desk_is o d p in
      let f : d.times ≡ time_bytes (after (on_machine b) o start).times = ap (λ (x : Desk). x.times) p ∙ run_times b o started never_written (sym never_spelled) in
      let y : said (on_machine b) o start ≡ shown_at (on_machine b) o (outcome (on_machine b) o start) = sym (laid_said (on_machine b) o start) in
      let c : d.count ≡ count_twos o (shown_at (on_machine b) o (outcome (on_machine b) o start)) =
      ap (λ (x : Desk). x.count) p ∙ run_count b o started never_written ∙ omega arith ∙ ap (count_twos o) y in
      let k : replies_length ≡ 4 * length o + (replies_length - 4 * length o) = omega arith in
      let g : d.replies ≡ reply_lines o (said (on_machine b) o start) ++ replicate (replies_length - 4 * length o) 0 =
      ap (λ (x : Desk). x.replies) p
      ∙ run_replies b o started never_written [] (replies_length - 4 * length o) (ap (λ (x : ℕ). replicate x 0) k) refl (length-replicate {A = ℕ} replies_length 0) (omega arith) in
      let h = g ∙ ap (λ (x : ℕ). reply_lines o (said (on_machine b) o start) ++ replicate (replies_length - x) 0) (sym (lines_long o start))
      ∙ ap (λ (ys : List Reply). reply_lines o ys ++ replicate (replies_length - length (reply_lines o ys)) 0) y in
      λ i. ended_as n (record { images = (m i).images; times = f i; replies = h i; result = result_bytes n t (c i) 0 })

-- ---- the loop has come to the place with the desk d
module _ (text : List ℕ) (b : Board) (rs : List Record) (lent : Images) (readable : Readable text b rs) where
  pub record Reaching (place : ℕ) (d : Desk) : Type 0 where
    pub done : List Record
    pub rest : List Record
    pub whole : rs ≡ done ++ rest
    pub ok : All RecordOk rest
    pub left : drop place text ≡ spelled_all rest
    pub played : d ≡ run_desk b done (started b lent)
    pub apart : All (λ (r : Record). All (λ (s : Record). r.stamp < s.stamp) rest) done
    pub reached : Reached (on_machine b) rs (start b lent) rest (outcome (on_machine b) done (start b lent))

  pub reaching_starts : (place : ℕ) → place ≡ length (spelled_board b) → Reaching place (started b lent)
  unfolding run_desk All
  reaching_starts place h = record {
    done = [];
    rest = rs;
    whole = refl;
    ok = readable.fits;
    left = subst (λ (k : ℕ). drop k text ≡ spelled_all rs) (sym h) (first_place_lem readable);
    played = refl;
    apart = tt;
    reached = reached_start (on_machine b) rs (start b lent) refl;
  }

  -- the answer that the demand admits, and what it shows
  abbrev pub Answered : Ended → Type 0
  Answered x = (z : meaning.Answer Machine Reply) × Means (on_machine b) rs (start b lent) z × (x ≡ shown b rs z)

  back : NeverBack (on_machine b) rs
  back = readable.acceptable.never_back

  module _ (few : 4 * length rs ≤ replies_length) (place : ℕ) (d : Desk) (r : Reaching place d) where
    done_few : 4 * length r.done ≤ replies_length
    done_few = omega (arith, ap length r.whole, length-append r.done r.rest)

    controls_is : d.controls ≡ (after (on_machine b) r.done (start b lent)).controls
    controls_is = ap (λ (k : Machine). k.controls) (desk_is b lent r.done d r.played)

    -- the text ends here
    pub reaching_ends : length text ≤ place → Answered (ended_with Answer.Settled 0 d.count d.images d.times d.replies)
    unfolding shown
    reaching_ends h =
        let n : r.rest ≡ [] = at_end text place r.rest r.left h r.ok in
        let w : rs ≡ r.done = r.whole ∙ ap (λ (l : List Record). r.done ++ l) n ∙ append-nil r.done in (
          meaning.settled (outcome (on_machine b) r.done (start b lent)),
          reached_end (on_machine b) rs (start b lent) _ (subst (λ (l : List Record). Reached (on_machine b) rs (start b lent) l (outcome (on_machine b) r.done (start b lent))) n r.reached),
          shows b lent 0 0 r.done d r.played done_few ∙ ap (λ (l : List Record). shown_as b 0 0 l (outcome (on_machine b) r.done (start b lent))) (sym w),
        )

    module _ (c : Controls) (here : d.controls ≡ c) (j : Judgement) (x : Found text b c r.rest j) where
      abbrev p : List Record
      p = x.first ∷ x.others

      abbrev m : Machine
      m = after (on_machine b) r.done (start b lent)

      controls_are : c ≡ m.controls
      controls_are = sym here ∙ controls_is

      good : Good m.controls
      good = good_after b r.done (start b lent) (good_start b readable.board.0.0)

      judged : Judged b x.held m.controls j.verdict
      judged = subst (λ (k : Controls). Judged b x.held k j.verdict) controls_are x.judged

      rest_back : NeverBack (on_machine b) (p ++ x.rest)
      rest_back = subst (NeverBack (on_machine b)) x.whole (back_behind (on_machine b) r.done r.rest (subst (NeverBack (on_machine b)) r.whole back))

      -- what follows the stamp is above it
      above_by : (l : List Record) → x.rest ≡ l → (l ≡ []) ⊎ ((s : Record) × (k : List Record) × (l ≡ s ∷ k) × (s.stamp ≡ j.stamp → ⊥)) → All (λ (s : Record). j.stamp < s.stamp) l
      unfolding All
      above_by l q (inl n) = subst (All (λ (s : Record). j.stamp < s.stamp)) (sym n) tt
      above_by l q (inr (s, k, n, h)) =
          let t = x.same.0 in
          subst (All (λ (s : Record). j.stamp < s.stamp)) (sym n)
          (subst (λ (u : ℕ). All (λ (s : Record). u < s.stamp) (s ∷ k)) t
          (run_above (on_machine b) x.first x.others s k (subst (λ (l : List Record). NeverBack (on_machine b) (p ++ l)) (q ∙ n) rest_back) (λ e. h (e ∙ t))))

      higher : All (λ (s : Record). j.stamp < s.stamp) x.rest
      higher = above_by x.rest refl x.over.over

      -- all that was played is below the stamp
      lower : All (λ (s : Record). s.stamp < j.stamp) r.done
      unfolding All
      lower =
          all_map _ _ (λ s k. let z = (subst (All (λ (u : Record). s.stamp < u.stamp)) x.whole k).0 in let t = x.same.0 in omega (arith, z, t)) r.done r.apart

      before_is : before (on_machine b) j.stamp rs ≡ r.done
      before_is =
          ap (before (on_machine b) j.stamp) (r.whole ∙ ap (λ (l : List Record). r.done ++ l) x.whole)
          ∙ front_in _ r.done (p ++ x.rest) (all_map _ _ (λ s k. lt-ltb s.stamp j.stamp k) r.done lower)
          ∙ ap (λ (l : List Record). r.done ++ l) (before_here (on_machine b) p x.rest j.stamp x.same higher)
          ∙ append-nil r.done

      sure : lost_of m.controls ≡ false
      sure = r.reached.sure

      reached_here : Reached (on_machine b) rs (start b lent) (p ++ x.rest) (outcome (on_machine b) r.done (start b lent))
      reached_here = subst (λ (l : List Record). Reached (on_machine b) rs (start b lent) l (outcome (on_machine b) r.done (start b lent))) x.whole r.reached

      stops : (n : Reason) → Means (on_machine b) (p ++ x.rest) m (meaning.stopped n j.stamp (outcome (on_machine b) [] m)) →
          Answered (ended_with (reason_answer n) j.stamp d.count d.images d.times d.replies)
      unfolding shown
      stops n h = (
        meaning.stopped n j.stamp (outcome (on_machine b) r.done (start b lent)),
        reached_stop (on_machine b) rs (start b lent) (p ++ x.rest) _ reached_here n j.stamp h,
        shows b lent (answer_number (reason_answer n)) j.stamp r.done d r.played done_few
            ∙ ap (λ (l : List Record). shown_as b (answer_number (reason_answer n)) j.stamp l (outcome (on_machine b) r.done (start b lent))) (sym before_is),
      )

      stops_by : (v : Verdict) → Judged b x.held m.controls v → goes_on v ≡ false → Answered (ended_with (verdict_answer v) j.stamp d.count d.images d.times d.replies)
      unfolding Judged
      stops_by verdict.Crowded k g =
          stops crowded (means_crowded (on_machine b) p x.rest j.stamp x.same higher m sure (too_many b x.held p x.rest j.stamp x.holds x.same higher k))
      stops_by verdict.Differ k g =
          stops differ
          (means_differ (on_machine b) p x.rest j.stamp x.same higher m sure (not_crowded b x.held p x.rest j.stamp x.holds x.same higher k.0)
          (λ a. k.1 (alike_agree b x.held p x.rest j.stamp x.holds x.same higher m good k.0 a)))
      stops_by verdict.Lost k g =
          let a = agree_alike b x.held p x.rest j.stamp x.holds x.same higher m good k.0 k.1 in
          stops lost
          (means_lost (on_machine b) p x.rest j.stamp x.same higher m sure (not_crowded b x.held p x.rest j.stamp x.holds x.same higher k.0) a p
          (as_written b x.held p x.rest j.stamp x.holds x.same higher m good k.0)
          (sym (lost_as b x.held p x.rest j.stamp x.holds x.same higher m good k.0 a) ∙ k.2))
      stops_by verdict.Passes k g = absurd (true_not_false g)

      -- the stamp stops the replay
      pub reaching_stops : goes_on j.verdict ≡ false → Answered (ended_with (verdict_answer j.verdict) j.stamp d.count d.images d.times d.replies)
      reaching_stops g = stops_by j.verdict judged g

      -- ---- the stamp passes
      short : Few x.held → length p ≤ most_in_all
      short k =
          let n = length_apart (λ (r : Record). channel_of r.event) p in
          let l : sum (λ c. length (of (on_machine b) c p)) ≤ most_in_all = sum_most (λ c. length (of (on_machine b) c p)) most (few_each b x.held p x.rest j.stamp x.holds x.same higher k) in
          omega (arith, n, l)

      written_is : Few x.held → take (min j.records.count most_in_all) j.records.records ≡ p
      written_is k =
          let l = short k in
          let c = x.written.counts in
          let n : min j.records.count most_in_all ≡ j.records.count = omega (arith, l, c) in
          ap (λ (i : ℕ). take i j.records.records) n ∙ holds_all most_in_all j.records.count j.records.records p x.written (omega (arith, l, c))

      apart_next : All (λ (s : Record). All (λ (u : Record). s.stamp < u.stamp) x.rest) (r.done ++ p)
      apart_next =
          all_append _ r.done p
          (all_map _ _ (λ s k. all_behind _ p x.rest (subst (All (λ (u : Record). s.stamp < u.stamp)) x.whole k)) r.done r.apart)
          (all_map _ _ (λ s k. subst (λ (t : ℕ). All (λ (u : Record). t < u.stamp) x.rest) (sym k) higher) p x.same)

      passes_by : (v : Verdict) → Judged b x.held m.controls v → goes_on v ≡ true → (d' : Desk) → d' ≡ run_desk b (take (min j.records.count most_in_all) j.records.records) d → Reaching j.next d'
      unfolding Judged
      passes_by verdict.Crowded k g d' q = absurd (true_not_false (sym g))
      passes_by verdict.Differ k g d' q = absurd (true_not_false (sym g))
      passes_by verdict.Lost k g d' q = absurd (true_not_false (sym g))
      passes_by verdict.Passes k g d' q =
          let a = agree_alike b x.held p x.rest j.stamp x.holds x.same higher m good k.0 k.1 in
          let kept : lost_of (after (on_machine b) p m).controls ≡ false = sym (lost_as b x.held p x.rest j.stamp x.holds x.same higher m good k.0 a) ∙ k.2 in
          record {
            done = r.done ++ p;
            rest = x.rest;
            whole = r.whole ∙ ap (λ (l : List Record). r.done ++ l) x.whole ∙ sym (append_assoc r.done p x.rest);
            ok = x.ok;
            left = x.left;
            played = q ∙ ap₂ (λ (l : List Record) (y : Desk). run_desk b l y) (written_is k.0) r.played ∙ sym (run_append b r.done p (started b lent));
            apart = apart_next;
            reached =
                subst (Reached (on_machine b) rs (start b lent) x.rest) (sym (outcome_append (on_machine b) r.done p (start b lent)))
                (reached_stamp (on_machine b) rs (start b lent) p x.rest j.stamp _ reached_here x.same higher
                (not_crowded b x.held p x.rest j.stamp x.holds x.same higher k.0) a p (as_written b x.held p x.rest j.stamp x.holds x.same higher m good k.0) kept);
          }

      pub reaching_passes : goes_on j.verdict ≡ true → (d' : Desk) → d' ≡ run_desk b (take (min j.records.count most_in_all) j.records.records) d → Reaching j.next d'
      reaching_passes g d' q = passes_by j.verdict judged g d' q
