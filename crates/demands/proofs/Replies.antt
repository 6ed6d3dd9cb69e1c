-- Each record's reply and the count, of a text that can be read: what the machine says when the lines are played as they stand, which is one of the allowed orders.
use mathlib.Core.Path.{◌≡◌, refl, sym, ap, ap₂, ◌∙◌}
use mathlib.Core.Bool.{true}
use mathlib.Core.List.{List, [], ◌∷◌, ◌++◌, append_assoc}
use Prim.Native.Nat.{ℕ, ◌-◌, ◌*◌, ◌≤◌}
use native.Mathlib.Omega.{arith}
use lib.ListN.{length, take, drop, get_or, replicate, length-append}
use lib.Seq.{take_at, drop_at, get_or-take, get_or-drop}
use Rattle.meaning.specs.Meaning.{Reason, after, before}
use Rattle.meaning.specs.Listing.{said}
use Rattle.meaning.proofs.Listing.{laid_said}
use Rattle.meaning.proofs.Allowing.{itself, back_filter}
use Rattle.record.specs.declared.Board.{Board}
use Rattle.record.specs.declared.Record.{Record}
use Rattle.record.specs.declared.Reply.{Reply}
use Rattle.record.specs.declared.Skeleton.{Skeleton}
use Rattle.record.specs.declared.Skeleton.TheVariants as skeleton
use Rattle.record.specs.Replies.{reply_kind}
use Rattle.image.specs.Image.{Image}
use Rattle.machine.specs.Replies.{delivered}
use Rattle.machine.specs.Machine.{Machine, machine_at_start, on_machine, says_on}
use Rattle.text.specs.Texts.{text_limit, Readable}
use Rattle.record.specs.Lengths.{replies_length}
use Rattle.buffers.specs.Buffers.{Buffers, fit, result_bytes}
use Rattle.call.specs.Play.{reply_line}
use Rattle.call.specs.Replay.{Ended, reply_lines, count_twos, padded, Replays}
use Rattle.demands.proofs.Readable.{readable_back}
use Rattle.demands.specs.Stops.{StopsAt}
use Rattle.demands.proofs.Stops.{stop_shows, settled_shows}

module _ (b : Board) where
  -- the reply bytes of lines that are played one after the other
  lines_append : (o p : List Record) (s : Machine) → reply_lines (o ++ p) (said (on_machine b) (o ++ p) s) ≡ reply_lines o (said (on_machine b) o s) ++ reply_lines p (said (on_machine b) p (after (on_machine b) o s))
  unfolding reply_lines said after
  lines_append [] p s = refl
  lines_append (r ∷ o) p s =
      ap (λ (l : List ℕ). reply_line r (says_on b s r) ++ l) (lines_append o p ((on_machine b).play s r))

  lines_length : (o : List Record) (s : Machine) → length (reply_lines o (said (on_machine b) o s)) ≡ 4 * length o
  unfolding reply_lines said
  lines_length [] s = refl
  lines_length (r ∷ o) s = omega (arith, length-append (reply_line r (says_on b s r)) (reply_lines o (said (on_machine b) o ((on_machine b).play s r))), lines_length o ((on_machine b).play s r))

  -- of these the four at 4 times a record's place are its own
  four_at : (o : List Record) (r : Record) (p : List Record) (s : Machine) → take 4 (drop (4 * length o) (padded (reply_lines (o ++ (r ∷ p)) (said (on_machine b) (o ++ (r ∷ p)) s)))) ≡ reply_line r (says_on b (after (on_machine b) o s) r)
  unfolding padded reply_lines said
  four_at o r p s =
      let w : List ℕ = reply_lines o (said (on_machine b) o s) in
      let four : List ℕ = reply_line r (says_on b (after (on_machine b) o s) r) in
      let more : List ℕ = reply_lines p (said (on_machine b) p ((on_machine b).play (after (on_machine b) o s) r)) in
      let all : List ℕ = reply_lines (o ++ (r ∷ p)) (said (on_machine b) (o ++ (r ∷ p)) s) in
      let zeros : List ℕ = replicate (replies_length - length all) 0 in
      let e : all ++ zeros ≡ w ++ (four ++ (more ++ zeros)) =
      ap (λ (l : List ℕ). l ++ zeros) (lines_append o (r ∷ p) s) ∙ append_assoc w (four ++ more) zeros ∙ ap (λ (l : List ℕ). w ++ l) (append_assoc four more zeros) in
      ap (λ (l : List ℕ). take 4 (drop (4 * length o) l)) e ∙ ap (take 4) (drop_at w (four ++ (more ++ zeros)) (4 * length o) (lines_length o s)) ∙ take_at four (more ++ zeros) 4 refl

-- every record that is played has a reply: its kind is not 0
delivered_kind : (i : Image) (k : Skeleton) → (1 ≤ reply_kind (delivered i k)) × (reply_kind (delivered i k) ≤ 7)
unfolding delivered
delivered_kind i skeleton.Silent = (omega arith, omega arith)
delivered_kind i (skeleton.Given v) = (omega arith, omega arith)
delivered_kind i (skeleton.Fetch p) = (omega arith, omega arith)
delivered_kind i skeleton.Ack = (omega arith, omega arith)
delivered_kind i skeleton.NoAck = (omega arith, omega arith)
delivered_kind i skeleton.Starts = (omega arith, omega arith)
delivered_kind i skeleton.Ends = (omega arith, omega arith)
delivered_kind i skeleton.NoCycle = (omega arith, omega arith)

pub kind_says : (b : Board) (s : Machine) (r : Record) → (1 ≤ reply_kind (says_on b s r)) × (reply_kind (says_on b s r) ≤ 7)
unfolding says_on
kind_says b s r = delivered_kind _ _

module _ {text : List ℕ} {x : Buffers} {e : Ended} {b : Board} {rs : List Record} (p : Replays text x e) (f : fit x ≡ true) (l : length text ≤ text_limit) (q : Readable text b rs) where
  abbrev start : Machine
  start = machine_at_start b x.images

  -- settled: the replies and the count of all lines, played as they stand
  pub settled_lines : e.answer ≡ 0 → e.buffers.replies ≡ padded (reply_lines rs (said (on_machine b) rs start))
  settled_lines h =
      (settled_shows p f l q h rs (itself (on_machine b) rs (readable_back q))).replies ∙ ap (λ (ys : List Reply). padded (reply_lines rs ys)) (laid_said (on_machine b) rs start)

  pub settled_count : e.answer ≡ 0 → e.buffers.result ≡ result_bytes 0 0 (count_twos rs (said (on_machine b) rs start)) 0
  settled_count h =
      (settled_shows p f l q h rs (itself (on_machine b) rs (readable_back q))).result ∙ ap₂ (λ (a : ℕ) (ys : List Reply). result_bytes a 0 (count_twos rs ys) 0) h (laid_said (on_machine b) rs start)

  -- a stop at t: of the lines before t
  module _ (n : Reason) (t : ℕ) (s : StopsAt e n t) where
    pub stop_lines : e.buffers.replies ≡ padded (reply_lines (before (on_machine b) t rs) (said (on_machine b) (before (on_machine b) t rs) start))
    stop_lines =
        (stop_shows p f l q n t s (before (on_machine b) t rs) (itself (on_machine b) _ (back_filter (on_machine b) _ rs (readable_back q)))).replies
        ∙ ap (λ (ys : List Reply). padded (reply_lines (before (on_machine b) t rs) ys)) (laid_said (on_machine b) (before (on_machine b) t rs) start)

    pub stop_count : e.buffers.result ≡ result_bytes e.answer t (count_twos (before (on_machine b) t rs) (said (on_machine b) (before (on_machine b) t rs) start)) 0
    stop_count =
        (stop_shows p f l q n t s (before (on_machine b) t rs) (itself (on_machine b) _ (back_filter (on_machine b) _ rs (readable_back q)))).result
        ∙ ap (λ (ys : List Reply). result_bytes e.answer t (count_twos (before (on_machine b) t rs) ys) 0) (laid_said (on_machine b) (before (on_machine b) t rs) start)

  -- so each record's reply is fixed: after the records o before it, at 4 times their number, stands what the machine then says to it
  module _ (o : List Record) (r : Record) (more : List Record) (here : rs ≡ o ++ (r ∷ more)) where
    pub each_reply : e.answer ≡ 0 → take 4 (drop (4 * length o) e.buffers.replies) ≡ reply_line r (says_on b (after (on_machine b) o start) r)
    each_reply h =
        ap (λ (w : List ℕ). take 4 (drop (4 * length o) w)) (settled_lines h ∙ ap (λ (k : List Record). padded (reply_lines k (said (on_machine b) k start))) here) ∙ four_at b o r more start

    -- and no record of a settled text is left unplayed: its kind is 1 to 7
    pub each_played : e.answer ≡ 0 → 1 ≤ get_or e.buffers.replies (4 * length o) 0
    each_played h =
        let w = e.buffers.replies in
        let k : get_or w (4 * length o) 0 ≡ reply_kind (says_on b (after (on_machine b) o start) r) =
        ap (λ (n : ℕ). get_or w n 0) (omega arith) ∙ sym (get_or-drop (4 * length o) w 0 0) ∙ sym (get_or-take 4 (drop (4 * length o) w) 0 0 (omega arith)) ∙ ap (λ (y : List ℕ). get_or y 0 0) (each_reply h) in
        omega (arith, kind_says b (after (on_machine b) o start) r)
