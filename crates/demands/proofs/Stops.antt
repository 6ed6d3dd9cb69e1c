-- Demand 3 of the exported call: on a readable text it stops at the earliest stamp that is crowded, by which two allowed orders differ, or by which the status is lost, with the first of these reasons there, and else it settles; and what it shows is how every allowed order ends.
use mathlib.Core.Path.{◌≡◌, refl, sym, ap, subst, ◌∙◌}
use mathlib.Core.Bool.{true}
use mathlib.Core.Logic.{◌↔◌, ⊎_elim}
use mathlib.Core.List.{List, []}
use Prim.Native.Nat.{ℕ, ◌≤◌}
use native.Mathlib.Omega.{arith}
use borrow.Author.Tests.{le-ltb, ne_eqb}
use lib.ListN.{length}
use Rattle.law.specs.Choice.{lt_or_le}
use Rattle.law.specs.Lists.{all_map, filter_none}
use Rattle.law.specs.Words.{All}
use Rattle.meaning.specs.Meaning as meaning
use Rattle.meaning.specs.Meaning.{Reason, crowded, differ, lost, Outcome, Allowed, outcome, before, upto, at, Alike, Passes, Differ, Holds, FirstReason, Earliest, Means}
use Rattle.meaning.proofs.Answers as answers
use Rattle.meaning.specs.Listing.{shown_at}
use Rattle.meaning.proofs.Witness.{two_differ}
use Rattle.record.specs.declared.Board.{Board}
use Rattle.record.specs.declared.Record.{Record}
use Rattle.record.specs.declared.Reply.{Reply}
use Rattle.record.specs.Answers.{answer_number}
use Rattle.field.specs.Decimal.{largest}
use Rattle.machine.specs.Machine.{Machine, machine_at_start, on_machine}
use Rattle.text.specs.Texts.{text_limit, Readable}
use Rattle.buffers.specs.Buffers.{Buffers, fit, result_bytes}
use Rattle.call.specs.Replay.{Ended, count_twos, reason_answer, shown_as, shown, Replays}
use Rattle.demands.specs.Stops.{StopsAt, Shows}
use Rattle.demands.proofs.Readable.{readable_back, stamps_fit, status_known}
use Rattle.demands.proofs.Result.{number_one}
use Rattle.demands.proofs.Ways.{reason_number}
use Rattle.demands.proofs.Telling.{steady_start, tell}

-- ---- what an answer of demand 3 says when it is shown
reason_one : (n k : Reason) → answer_number (reason_answer n) ≡ answer_number (reason_answer k) → n ≡ k
reason_one crowded crowded e = refl
reason_one crowded differ e = absurd (omega arith)
reason_one crowded lost e = absurd (omega arith)
reason_one differ crowded e = absurd (omega arith)
reason_one differ differ e = refl
reason_one differ lost e = absurd (omega arith)
reason_one lost crowded e = absurd (omega arith)
reason_one lost differ e = absurd (omega arith)
reason_one lost lost e = refl

-- a stamp that a record has is below 2^32
stamp_fits : (b : Board) (t : ℕ) (rs : List Record) → All (λ (r : Record). r.stamp ≤ largest) rs → (at (on_machine b) t rs ≡ [] → ⊥) → t ≤ largest
stamp_fits b t rs h n =
    ⊎_elim (λ l. absurd (n (filter_none _ rs (all_map _ _ (λ r k. ne_eqb r.stamp t (λ q. omega arith)) rs h)))) (λ l. l) (lt_or_le largest t)

shown_shows : (b : Board) (n t : ℕ) (rs o : List Record) (s : Machine) (v : Outcome Machine Reply) (e : Ended) → outcome (on_machine b) o s ≡ v → e ≡ shown_as b n t rs v → Shows b t rs o s e
unfolding shown_as
shown_shows b n t rs o s v e h q =
    let k : e ≡ shown_as b n t rs (outcome (on_machine b) o s) = q ∙ ap (shown_as b n t rs) (sym h) in
    record {
      images = ap (λ (y : Ended). y.buffers.images) k;
      times = ap (λ (y : Ended). y.buffers.times) k;
      replies = ap (λ (y : Ended). y.buffers.replies) k;
      result = ap (λ (y : Ended). y.buffers.result) k ∙ ap (λ (a : ℕ). result_bytes a t (count_twos rs (shown_at (on_machine b) rs (outcome (on_machine b) o s))) 0) (sym (ap (λ (y : Ended). y.answer) k));
    }

module _ (b : Board) (rs : List Record) (e : Ended) where
  shown_stops : (n : Reason) (t : ℕ) (v : Outcome Machine Reply) → t ≤ largest → e ≡ shown b rs (meaning.stopped n t v) → StopsAt e n t
  unfolding shown shown_as
  shown_stops n t v h q = record {
    answer = ap (λ (y : Ended). y.answer) q;
    stamp = h;
    count = _;
    result = ap (λ (y : Ended). y.buffers.result) q;
  }

  -- what is shown as a stop at t by the reason n is one
  stops_shown : (n : Reason) (t : ℕ) → StopsAt e n t → (z : meaning.Answer Machine Reply) → e ≡ shown b rs z → ((k : Reason) (u : ℕ) (v : Outcome Machine Reply) → z ≡ meaning.stopped k u v → u ≤ largest) → (v : Outcome Machine Reply) × (z ≡ meaning.stopped n t v)
  unfolding shown shown_as
  stops_shown n t s (meaning.settled v) q h =
      let k = ap (λ (y : Ended). y.answer) q in
      absurd (omega (arith, s.answer, reason_number n))
  stops_shown n t s (meaning.stopped j u v) q h =
      let same = reason_one j n (sym (ap (λ (y : Ended). y.answer) q) ∙ s.answer) in
      let stamps = number_one _ u _ _ _ t _ _ (sym (ap (λ (y : Ended). y.buffers.result) q) ∙ s.result) (h j u v refl) s.stamp in
      (v, λ i. meaning.stopped (same i) (stamps i) v)

  settled_shown : e.answer ≡ 0 → (z : meaning.Answer Machine Reply) → e ≡ shown b rs z → (v : Outcome Machine Reply) × (z ≡ meaning.settled v)
  unfolding shown shown_as
  settled_shown h (meaning.settled v) q = (v, refl)
  settled_shown h (meaning.stopped n t v) q =
      let k = ap (λ (y : Ended). y.answer) q in
      absurd (omega (arith, reason_number n))

-- ---- the demand, of a text that can be read and buffers that fit
module _ {text : List ℕ} {x : Buffers} {e : Ended} {b : Board} {rs : List Record} (p : Replays text x e) (f : fit x ≡ true) (l : length text ≤ text_limit) (q : Readable text b rs) where
  -- the start, with the images as they are lent
  abbrev start : Machine
  start = machine_at_start b x.images

  answered : (z : meaning.Answer Machine Reply) × Means (on_machine b) rs start z × (e ≡ shown b rs z)
  answered = p.played f (le-ltb _ _ l) b rs q

  -- an answer that the demand admits is the one that is shown
  pub means_shown : (z : meaning.Answer Machine Reply) → Means (on_machine b) rs start z → e ≡ shown b rs z
  means_shown z m = answered.2 ∙ ap (shown b rs) (sym (answers.determined (on_machine b) rs start answered.0 answered.1 (readable_back q) z m))

  fitting : (k : Reason) (u : ℕ) (v : Outcome Machine Reply) → answered.0 ≡ meaning.stopped k u v → u ≤ largest
  fitting k u v h =
      stamp_fits b u rs (stamps_fit rs q.fits) (answers.stop_stamped (on_machine b) rs start answered.0 answered.1 (status_known b x.images) k u v h)

  -- it stops at t with the reason n exactly when t is the earliest stamp with a reason, and n the first that holds there
  pub stops_earliest : (n : Reason) (t : ℕ) → StopsAt e n t ↔ Earliest (on_machine b) rs start n t
  stops_earliest n t = (
    (λ s. (answers.stops_earliest (on_machine b) rs start answered.0 answered.1 n t).0 (stops_shown b rs e n t s answered.0 answered.2 fitting)),
    λ h.
        let v = (answers.stops_earliest (on_machine b) rs start answered.0 answered.1 n t).1 h in
        shown_stops b rs e n t v.0 (fitting n t v.0 v.1) (answered.2 ∙ ap (shown b rs) v.1),
  )

  -- and then it shows how every allowed order of the records before t ends
  pub stop_shows : (n : Reason) (t : ℕ) → StopsAt e n t → (o : List Record) → Allowed (on_machine b) (before (on_machine b) t rs) o → Shows b t (before (on_machine b) t rs) o start e
  unfolding shown
  stop_shows n t s o a =
      let v = stops_shown b rs e n t s answered.0 answered.2 fitting in
      shown_shows b (answer_number (reason_answer n)) t (before (on_machine b) t rs) o start v.0 e
      (answers.stop_shows (on_machine b) rs start answered.0 answered.1 n t v.0 v.1 o a) (answered.2 ∙ ap (shown b rs) v.1)

  -- it settles exactly when no stamp has a reason
  pub settled_means : (e.answer ≡ 0) ↔ ((t : ℕ) → Passes (on_machine b) rs start t)
  unfolding shown shown_as
  settled_means = (
    (λ h. (answers.settled_means (on_machine b) rs start answered.0 answered.1).0 (settled_shown b rs e h answered.0 answered.2)),
    λ h.
        let v = (answers.settled_means (on_machine b) rs start answered.0 answered.1).1 h in
        ap (λ (y : Ended). y.answer) (answered.2 ∙ ap (shown b rs) v.1),
  )

  -- and then it shows how every allowed order of all records ends
  pub settled_shows : e.answer ≡ 0 → (o : List Record) → Allowed (on_machine b) rs o → Shows b 0 rs o start e
  unfolding shown
  settled_shows h o a =
      let v = settled_shown b rs e h answered.0 answered.2 in
      shown_shows b 0 0 rs o start v.0 e (answers.settled_shows (on_machine b) rs start answered.0 answered.1 v.0 v.1 o a) (answered.2 ∙ ap (shown b rs) v.1)

  -- in both cases any two of these orders end alike in all that the machine is: both chips' states, the lines, the images, the pages' times and every reply
  pub settled_alike : e.answer ≡ 0 → Alike (on_machine b) rs start
  unfolding Alike
  settled_alike h o w a c =
      let v = settled_shown b rs e h answered.0 answered.2 in
      let k = answers.settled_shows (on_machine b) rs start answered.0 answered.1 v.0 v.1 in
      k o a ∙ sym (k w c)

  pub stop_alike : (n : Reason) (t : ℕ) → StopsAt e n t → Alike (on_machine b) (before (on_machine b) t rs) start
  unfolding Alike
  stop_alike n t s o w a c =
      let v = stops_shown b rs e n t s answered.0 answered.2 fitting in
      let k = answers.stop_shows (on_machine b) rs start answered.0 answered.1 n t v.0 v.1 in
      k o a ∙ sym (k w c)

  -- ---- the number alone: 6, 7 or 8 is a stop at some stamp
  stop_of_lem : (n : Reason) → e.answer ≡ answer_number (reason_answer n) → (z : meaning.Answer Machine Reply) → Means (on_machine b) rs start z → e ≡ shown b rs z → (t : ℕ) × Earliest (on_machine b) rs start n t
  unfolding Means shown shown_as
  stop_of_lem n h (meaning.settled v) m k = let y = ap (λ (y : Ended). y.answer) k in absurd (omega (arith, reason_number n))
  stop_of_lem n h (meaning.stopped j t v) m k =
      let same = reason_one j n (sym (ap (λ (y : Ended). y.answer) k) ∙ h) in
      (t, subst (λ (y : Reason). Earliest (on_machine b) rs start y t) same m.0)

  pub stop_answer : (n : Reason) → (e.answer ≡ answer_number (reason_answer n)) ↔ ((t : ℕ) × Earliest (on_machine b) rs start n t)
  stop_answer n = ((λ h. stop_of_lem n h answered.0 answered.1 answered.2), λ h. ((stops_earliest n h.0).1 h.1).answer)

  -- 7 is said where two allowed orders of the records so far differ: here are two
  pub differ_means_two : e.answer ≡ 7 →
      (t : ℕ) × StopsAt e differ t × (o : List Record) × (w : List Record) × Allowed (on_machine b) (upto (on_machine b) t rs) o × Allowed (on_machine b) (upto (on_machine b) t rs) w × (outcome (on_machine b) o start ≡ outcome (on_machine b) w start → ⊥)
  unfolding FirstReason
  differ_means_two h =
      let s = (stop_answer differ).0 h in
      let d = two_differ (on_machine b) start (λ o w. tell b o w start (steady_start b x.images)) rs (readable_back q) s.0 s.1.here.1 in
      (s.0, (stops_earliest differ s.0).1 s.1, d.0, d.1, d.2, d.3, d.4)

  -- ---- a reason at a stamp is never forgiven by what comes after: the call stops there or before (none_before of Earliest)
  stays : (k : Reason) (u : ℕ) → Holds (on_machine b) rs start k u → (z : meaning.Answer Machine Reply) → Means (on_machine b) rs start z → (n : Reason) × (t : ℕ) × (t ≤ u) × Earliest (on_machine b) rs start n t
  unfolding Means Passes
  stays k u h (meaning.settled v) m = absurd (m.0 u k h)
  stays k u h (meaning.stopped n t v) m = (n, t, ⊎_elim (λ y. absurd (m.0.none_before u y k h)) (λ y. y) (lt_or_le u t), m.0)

  pub reason_stays : (k : Reason) (u : ℕ) → Holds (on_machine b) rs start k u → (n : Reason) × (t : ℕ) × (t ≤ u) × StopsAt e n t
  reason_stays k u h = let s = stays k u h answered.0 answered.1 in (s.0, s.1, s.2, (stops_earliest s.0 s.1).1 s.3)

  -- two orders that differ by the stamp u: though all end alike again later, the call does not go past u
  pub not_forgiven : (u : ℕ) → Differ (on_machine b) rs start u → (n : Reason) × (t : ℕ) × (t ≤ u) × StopsAt e n t
  unfolding Holds
  not_forgiven u h = reason_stays differ u h
