-- What records played as they are written leave on the desk: the machine after them, their replies in turn, and how many disagree.
use mathlib.Core.Path.{◌≡◌, refl, sym, ap, ◌∙◌}
use mathlib.Core.List.{List, [], ◌∷◌, ◌++◌, append_assoc}
use Prim.Native.Nat.{ℕ, ◌+◌, ◌*◌, ◌≤◌, ◌<◌}
use native.Mathlib.Numerals.{add-one}
use native.Mathlib.Omega.{arith}
use lib.ListN.{length, replicate, take, drop, drop_of_length-le, get_or, length-append, length-replicate}
use lib.Seq.{drop-cons}
use Rattle.meaning.specs.Meaning.{after}
use Rattle.meaning.specs.Listing.{said}
use Rattle.record.specs.declared.Board.{Board}
use Rattle.record.specs.declared.Record.{Record}
use Rattle.record.specs.declared.Reply.{Reply}
use Rattle.record.specs.declared.Match.{Match}
use Rattle.record.specs.declared.Match.TheVariants.{Nothing, Agrees, Disagrees}
use Rattle.controls.specs.declared.Controls.{Controls}
use Rattle.image.specs.Images.{Images}
use Rattle.machine.specs.Replies.{compared}
use Rattle.times.specs.declared.Touched.{Touched}
use Rattle.times.specs.Times.{Times, times_after, time_bytes}
use Rattle.times.specs.Put.{times_with}
use Rattle.times.proofs.Spelled.{put_spelled}
use Rattle.machine.specs.Machine.{Machine, machine_of, on_machine, play_on, says_on}
use Rattle.machine.specs.Turn.{Turn, turn, turn_of}
use Rattle.record.specs.Lengths.{replies_length, reply_places}
use Rattle.buffers.specs.Put.{replies_with}
use Rattle.buffers.proofs.Replies.{reply_next}
use Rattle.call.specs.Play.{twos, reply_line}
use Rattle.call.specs.Steps.{Desk, desk_of, step_desk, run_desk}
use Rattle.call.specs.Replay.{reply_lines, count_twos}

-- a match counts one at the most
pub two_most : (m : Match) → twos m ≤ 1
two_most Nothing = omega arith
two_most Agrees = omega arith
two_most Disagrees = omega arith

-- what playing a record, noting its pages and writing its reply make together; n is the next record's number
pub played_one : (b : Board) (c c' : Controls) (x x' : Images) (times times' old new : List ℕ) (number n count t : ℕ) (r : Record) (y : Reply) (p : Touched) → n ≡ number + 1 →
    turn c' x' y p ≡ turn_of b c x r → times' ≡ times_with r.stamp p times → (new ≡ replies_with number (reply_line r y) old) × (t ≡ twos (compared r.event y)) →
    desk_of c' x' times' new n (count + t) ≡ step_desk b (desk_of c x times old number count) r
unfolding step_desk
played_one b c c' x x' times times' old new number n count t r y p e hp ht h =
    let f = ht ∙ ap (λ (z : Turn). times_with r.stamp z.touched times) hp in
    let g = h.0 ∙ ap (λ (z : Turn). replies_with number (reply_line r z.reply) old) hp in
    let k = ap (λ (k : ℕ). count + k) (h.1 ∙ ap (λ (z : Turn). twos (compared r.event z.reply)) hp) in
    λ i. desk_of (hp i).controls (hp i).images (f i) (g i) (e i) (k i)

module _ (b : Board) where
  -- a record more is played, on the same board: what is left to play gives the whole
  pub round : (records : List Record) (k : ℕ) (d₀ d d' : Desk) (b' : Board) (x : Record) → k < length records → b' ≡ b → d' ≡ step_desk b' d (get_or records k x) →
      run_desk b (drop k records) d ≡ run_desk b records d₀ → run_desk b (drop (k + 1) records) d' ≡ run_desk b records d₀
  unfolding run_desk
  round records k d₀ d d' b' x h s e q = rw (e, s, add-one) (rw (drop-cons records k x h) at q)

  pub turned : (records : List Record) (k : ℕ) (d₀ d : Desk) → length records ≤ k → run_desk b (drop k records) d ≡ run_desk b records d₀ → d ≡ run_desk b records d₀
  unfolding run_desk
  turned records k d₀ d h q = rw (drop_of_length-le records {i = k} h) at q

  -- a stamp of one record
  pub turned_alone : (records : List Record) (d₀ d : Desk) (b' : Board) (x : Record) → 1 ≤ length records → b' ≡ b → d ≡ step_desk b' d₀ (get_or records 0 x) → d ≡ run_desk b (take 1 records) d₀
  unfolding run_desk
  turned_alone [] d₀ d b' x l s e = absurd (omega arith)
  turned_alone (r ∷ rs) d₀ d b' x l s e = rw (← s) e

  -- the machine that the desk holds, where the pages were last written at y
  abbrev pub machine_on : Desk → Times → Machine
  machine_on d y = machine_of d.controls d.images y

  pub run_machine : (o : List Record) (d : Desk) (y : Times) → machine_on (run_desk b o d) (after (on_machine b) o (machine_on d y)).times ≡ after (on_machine b) o (machine_on d y)
  unfolding run_desk step_desk turn_of after play_on
  run_machine [] d y = refl
  run_machine (r ∷ o) d y = run_machine o (step_desk b d r) (play_on b (machine_on d y) r).times

  -- where the table tells y, it tells the times after the records
  pub run_times : (o : List Record) (d : Desk) (y : Times) → d.times ≡ time_bytes y → (run_desk b o d).times ≡ time_bytes (after (on_machine b) o (machine_on d y)).times
  unfolding run_desk step_desk turn_of after play_on
  run_times [] d y e = e
  run_times (r ∷ o) d y e =
      let p = (turn_of b d.controls d.images r).touched in
      run_times o (step_desk b d r) (times_after r.stamp p y) (ap (times_with r.stamp p) e ∙ put_spelled r.stamp p y)

  pub run_append : (o p : List Record) (d : Desk) → run_desk b (o ++ p) d ≡ run_desk b p (run_desk b o d)
  unfolding run_desk
  run_append [] p d = refl
  run_append (r ∷ o) p d = run_append o p (step_desk b d r)

  pub run_count : (o : List Record) (d : Desk) (y : Times) → (run_desk b o d).count ≡ d.count + count_twos o (said (on_machine b) o (machine_on d y))
  unfolding run_desk step_desk turn_of count_twos said play_on says_on
  run_count [] d y = omega arith
  run_count (r ∷ o) d y = run_count o (step_desk b d r) (play_on b (machine_on d y) r).times ∙ omega arith

  -- the replies so far are w, and zeros follow
  pub run_replies : (o : List Record) (d : Desk) (y : Times) (w : List ℕ) (k : ℕ) → d.replies ≡ w ++ replicate (4 * length o + k) 0 → length w ≡ 4 * d.number → length d.replies ≡ replies_length →
      d.number + length o ≤ reply_places → (run_desk b o d).replies ≡ w ++ (reply_lines o (said (on_machine b) o (machine_on d y)) ++ replicate k 0)
  unfolding run_desk step_desk turn_of reply_lines said play_on says_on
  run_replies [] d y w k e l m h = let z : 4 * 0 + k ≡ k = omega arith in e ∙ ap (λ (n : ℕ). w ++ replicate n 0) z
  run_replies (r ∷ o) d y w k e l m h =
      let four = reply_line r (says_on b (machine_on d y) r) in
      let z : 4 * length (r ∷ o) + k ≡ 4 + (4 * length o + k) = omega arith in
      let f : replies_with d.number four d.replies ≡ (w ++ four) ++ replicate (4 * length o + k) 0 =
      reply_next d.number (4 * length o + k) w four d.replies (e ∙ ap (λ (n : ℕ). w ++ replicate n 0) z) l (omega arith) m refl in
      let g : length (w ++ four) ≡ 4 * (d.number + 1) = length-append w four ∙ omega arith in
      let n : length (replies_with d.number four d.replies) ≡ replies_length =
      ap length f ∙ length-append (w ++ four) (replicate (4 * length o + k) 0) ∙ omega (arith, length-replicate {A = ℕ} (4 * length o + k) 0, ap length e, length-append w (replicate (4 * length (r ∷ o) + k) 0), length-replicate {A = ℕ} (4 * length (r ∷ o) + k) 0) in
      run_replies o (step_desk b d r) (play_on b (machine_on d y) r).times (w ++ four) k f g n (omega arith)
      ∙ append_assoc w four (reply_lines o (said (on_machine b) o (play_on b (machine_on d y) r)) ++ replicate k 0)
      ∙ ap (λ (x : List ℕ). w ++ x) (sym (append_assoc four (reply_lines o (said (on_machine b) o (play_on b (machine_on d y) r))) (replicate k 0)))
