-- Doubt means doubt, of the exported call. Every history keeps to what is not marked; and two of them, in which every doubt is 0 and in which every doubt is 1, differ in every bit that is marked.
use mathlib.Core.Path.{◌≡◌, refl, sym, ap, subst, ◌∙◌}
use mathlib.Core.Bool.{Bool, true, false}
use mathlib.Core.Logic.{◌↔◌, ⊎_elim}
use mathlib.Core.List.{List}
use Prim.Native.Nat.{ℕ, ◌+◌, ◌*◌, ◌≤◌, ◌<◌}
use native.Mathlib.Omega.{arith}
use borrow.Author.Tests.{eqb-true, eqb-false}
use lib.Dec.{eqb}
use lib.ListN.{get_or}
use Rattle.law.specs.Words.{All, pick}
use Rattle.law.specs.Choice.{true_not_false, split}
use Rattle.law.specs.Lists.{all_map, all_filter}
use Rattle.meaning.specs.Meaning.{Reason, crowded, differ, lost, Outcome, NeverBack, Allowed, outcome, before, Alike}
use Rattle.meaning.specs.Listing.{said, shown_at}
use Rattle.meaning.proofs.Allowing.{itself, back_filter, allowed_all}
use Rattle.meaning.proofs.Alongside.{Pairwise, pairs_at}
use Rattle.meaning.proofs.Listing.{laid_said}
use Rattle.meaning.proofs.TwoMachines as two
use Rattle.record.specs.declared.Board.{Board}
use Rattle.record.specs.declared.Chip.{Chip}
use Rattle.record.specs.declared.Record.{Record}
use Rattle.record.specs.declared.Reply.{Reply}
use Rattle.record.specs.declared.Reply.TheVariants as reply
use Rattle.record.specs.Answers.{answer_number}
use Rattle.record.specs.Replies.{reply_kind, reply_value, reply_mask}
use Rattle.line.specs.Records.{RecordOk}
use Rattle.cell.specs.declared.Cell.{Cell}
use Rattle.image.specs.Image.{cell_at}
use Rattle.image.specs.Images.{Images, image_at, kept_bytes, Kept}
use Rattle.flash.proofs.Within.{bytes_blank}
use Rattle.controls.specs.Play.{lost_of}
use Rattle.machine.specs.Machine.{Machine, machine_at_start, on_machine}
use Rattle.enough.proofs.Enough.{good_start}
use Rattle.buffers.specs.Buffers.{Buffers}
use Rattle.buffers.proofs.Fit.{fit_says}
use Rattle.call.specs.Replay.{Ended, reply_lines, padded, reason_answer}
use Rattle.demands.specs.Stops.{Shows}
use Rattle.demands.proofs.Readable.{readable_back}
use Rattle.demands.proofs.Demands.{demands}
use Rattle.histories.specs.History.{bit_of, Bits, Fate, becomes, play_real, RealReply, byte, no_byte, says_real, on_real, StandFor, History, begins, ends, replied}
use Rattle.histories.specs.Exact.{MeansDoubt, is_byte, bit_in, Exact, settled, stopped, DoubtExact, AnswerShows}
use Rattle.histories.proofs.OneBit.{Turns, keeps, fills, filled_with, filled_may}
use Rattle.histories.proofs.Along.{Sound, Ok, EachBit, Like, Follows, ends_follow, shows_like}
use Rattle.histories.proofs.Free.{Same, reach}
use Rattle.histories.proofs.ReplyBytes.{kind_at, value_at, mask_at}

-- ---- a bit that every history keeps to where it is not marked, and of two histories has every doubt 0 and every doubt 1
module _ {H : Type 0} (bit : H → Bool) (value mark : Bool) (p q : H) where
  means : ((h : H) → mark ≡ false → bit h ≡ value) → bit p ≡ pick mark false value → bit q ≡ pick mark true value → MeansDoubt H bit value mark
  means kept low high = record {
    marked = (
      (λ e. (p, q, λ s. true_not_false (sym (high ∙ ap (λ (t : Bool). pick t true value) e) ∙ sym s ∙ low ∙ ap (λ (t : Bool). pick t false value) e))),
      λ d. split mark (λ e. e) (λ e. absurd (d.2 (kept d.0 e ∙ sym (kept d.1 e)))),
    );
    unmarked = λ e h. kept h e;
  }

-- ---- the two relations: not marked, the bit is as shown; every doubt is w
abbrev Keeps : Bool → Bool → Bool → Type 0
Keeps v m x = m ≡ false → x ≡ v

abbrev Any : Bool → Type 0
Any chosen = Unit {0}

abbrev Fills : Bool → Bool → Bool → Bool → Type 0
Fills w v m x = x ≡ pick m w v

abbrev Is : Bool → Bool → Type 0
Is w chosen = chosen ≡ w

keep_turn : (f : Fate) (c d : Cell) → Turns f c d → (j : ℕ) → j < 8 → (x chosen : Bool) → Any chosen → Keeps (bit_of c.value j) (bit_of c.mask j) x → Keeps (bit_of d.value j) (bit_of d.mask j) (becomes f j chosen x)
keep_turn f c d t j l x chosen u h = keeps f c d t j l x chosen h

keep_sure : (v : Bool) → Keeps v false v
keep_sure v e = refl

fill_turn : (w : Bool) (f : Fate) (c d : Cell) → Turns f c d → (j : ℕ) → j < 8 → (x chosen : Bool) → Is w chosen → Fills w (bit_of c.value j) (bit_of c.mask j) x →
    Fills w (bit_of d.value j) (bit_of d.mask j) (becomes f j chosen x)
fill_turn w f c d t j l x chosen u h = (λ i. becomes f j (u i) (h i)) ∙ fills f c d t j l w

fill_sure : (w v : Bool) → Fills w v false v
fill_sure w v = refl

-- ---- a reply, by what is replied in the histories
like_bit : (Bit : Bool → Bool → Bool → Type 0) (v m : ℕ) (a : RealReply) → Like Bit (reply.Byte v m) a → (j : ℕ) → j < 8 → Bit (bit_of v j) (bit_of m j) (bit_in a j)
unfolding Like
like_bit Bit v m (byte w) h j l = h j l
like_bit Bit v m no_byte h j l = absurd h

reply_means : {H : Type 0} (y : Reply) (a : H → RealReply) (p q : H) → reply_kind y ≡ 2 → ((h : H) → Like Keeps y (a h)) → Like (Fills false) y (a p) → Like (Fills true) y (a q) →
    (j : ℕ) → j < 8 → MeansDoubt H (λ h. bit_in (a h) j) (bit_of (reply_value y) j) (bit_of (reply_mask y) j)
reply_means (reply.Byte v m) a p q e h low high j l =
    means (λ h. bit_in (a h) j) (bit_of v j) (bit_of m j) p q (λ g. like_bit Keeps v m (a g) (h g) j l) (like_bit (Fills false) v m (a p) low j l) (like_bit (Fills true) v m (a q) high j l)
reply_means reply.NotPlayed a p q e h low high j l = absurd (omega arith)
reply_means reply.Silent a p q e h low high j l = absurd (omega arith)
reply_means reply.Ack a p q e h low high j l = absurd (omega arith)
reply_means reply.NoAck a p q e h low high j l = absurd (omega arith)
reply_means reply.Starts a p q e h low high j l = absurd (omega arith)
reply_means reply.Ends a p q e h low high j l = absurd (omega arith)
reply_means reply.NoCycle a p q e h low high j l = absurd (omega arith)

-- is the reply a byte?
yes : {P Q : Type 0} → P → Q → P ↔ Q
yes p q = ((λ e. q), λ e. p)

no : {n : ℕ} → (n ≡ 2 → ⊥) → (n ≡ 2) ↔ (false ≡ true)
no f = ((λ e. absurd (f e)), λ e. absurd (true_not_false (sym e)))

reply_kind_lem : (y : Reply) (a : RealReply) → Like Keeps y a → (reply_kind y ≡ 2) ↔ (is_byte a ≡ true)
unfolding Like
reply_kind_lem (reply.Byte v m) (byte w) h = yes refl refl
reply_kind_lem (reply.Byte v m) no_byte h = absurd h
reply_kind_lem reply.NotPlayed (byte w) h = absurd h
reply_kind_lem reply.NotPlayed no_byte h = no (λ e. omega arith)
reply_kind_lem reply.Silent (byte w) h = absurd h
reply_kind_lem reply.Silent no_byte h = no (λ e. omega arith)
reply_kind_lem reply.Ack (byte w) h = absurd h
reply_kind_lem reply.Ack no_byte h = no (λ e. omega arith)
reply_kind_lem reply.NoAck (byte w) h = absurd h
reply_kind_lem reply.NoAck no_byte h = no (λ e. omega arith)
reply_kind_lem reply.Starts (byte w) h = absurd h
reply_kind_lem reply.Starts no_byte h = no (λ e. omega arith)
reply_kind_lem reply.Ends (byte w) h = absurd h
reply_kind_lem reply.Ends no_byte h = no (λ e. omega arith)
reply_kind_lem reply.NoCycle (byte w) h = absurd h
reply_kind_lem reply.NoCycle no_byte h = no (λ e. omega arith)

-- ---- records whose allowed orders end alike
module _ (b : Board) (ps : List Record) (x : Buffers) (status : b.status < 256) (lent : Kept x.images) (ok : All Ok ps) (back : NeverBack (on_machine b) ps) (alike : Alike (on_machine b) ps (machine_at_start b x.images)) where
  abbrev H : Type 0
  H = History b ps x.images

  abbrev start : Machine
  start = machine_at_start b x.images

  abbrev shown : Outcome Machine Reply
  shown = outcome (on_machine b) ps start

  sound : Sound start
  sound = record { kept = lent; bytes = bytes_blank; good = good_start b status }

  -- the same orders are allowed
  of_machine : (h : H) → Allowed (on_machine b) ps h.order
  of_machine h = (two.allowed (on_machine b) (play_real b) (says_real b) (λ s. lost_of s.controls)).1 h.allowed

  ends_shown : (h : H) → outcome (on_machine b) h.order start ≡ shown
  unfolding Alike
  ends_shown h = alike h.order ps (of_machine h) (itself (on_machine b) ps back)

  -- every history
  keep_follows : (h : H) → Follows Keeps b Any keep_turn keep_sure start (begins h)
  unfolding StandFor
  keep_follows h = record { sound = sound; moved = refl; bits = λ chip k l j n. h.stands chip k j l n; chosen = λ n chip k j. tt }

  order_ok : (h : H) → All Ok h.order
  order_ok h = allowed_all (on_machine b) Ok ps h.order (of_machine h) ok

  images_keep : (h : H) (chip : Chip) (k : ℕ) → k < kept_bytes chip → EachBit Keeps (cell_at (image_at chip shown.state.images) k) (ends h chip k)
  images_keep h chip k l =
      subst (λ (v : Outcome Machine Reply). EachBit Keeps (cell_at (image_at chip v.state.images) k) (ends h chip k)) (ends_shown h)
      ((ends_follow Keeps b Any keep_turn keep_sure h.order (order_ok h) start (begins h) (keep_follows h)).bits chip k l)

  replies_keep : (h : H) (n : ℕ) → Like Keeps (get_or (shown_at (on_machine b) ps shown) n reply.NotPlayed) (replied h n)
  unfolding Like
  replies_keep h n =
      pairs_at (Like Keeps) _ _
      (subst (λ (v : Outcome Machine Reply). Pairwise (Like Keeps) (shown_at (on_machine b) ps v) (shown_at (on_real b) ps (outcome (on_real b) h.order (begins h)))) (ends_shown h)
      (shows_like Keeps b Any keep_turn keep_sure ps h.order (order_ok h) start (begins h) (keep_follows h)))
      reply.NotPlayed no_byte tt n

  -- the one in which every doubt is w, with the lines as they are written
  every : Bool → H
  unfolding StandFor
  every w = record {
    order = ps;
    allowed = itself (on_real b) ps back;
    first = λ chip k j. filled_with w (cell_at (image_at chip x.images) k) j;
    stands = λ chip k j l n. filled_may w (cell_at (image_at chip x.images) k) j;
    choices = λ n chip k j. w;
  }

  module _ (w : Bool) where
    fill_follows : Follows (Fills w) b (Is w) (fill_turn w) (fill_sure w) start (begins (every w))
    unfolding every
    fill_follows = record { sound = sound; moved = refl; bits = λ chip k l j n. refl; chosen = λ n chip k j. refl }

    images_fill : (chip : Chip) (k : ℕ) → k < kept_bytes chip → EachBit (Fills w) (cell_at (image_at chip shown.state.images) k) (ends (every w) chip k)
    unfolding every
    images_fill chip k l = (ends_follow (Fills w) b (Is w) (fill_turn w) (fill_sure w) ps ok start (begins (every w)) fill_follows).bits chip k l

    replies_fill : (n : ℕ) → Like (Fills w) (get_or (shown_at (on_machine b) ps shown) n reply.NotPlayed) (replied (every w) n)
    unfolding Like every
    replies_fill n =
        pairs_at (Like (Fills w)) _ _ (shows_like (Fills w) b (Is w) (fill_turn w) (fill_sure w) ps ps ok start (begins (every w)) fill_follows) reply.NotPlayed no_byte tt n

  -- what is shown of them is exact
  image_means : (chip : Chip) (k j : ℕ) → k < kept_bytes chip → j < 8 →
      MeansDoubt H (λ h. ends h chip k j) (bit_of (cell_at (image_at chip shown.state.images) k).value j) (bit_of (cell_at (image_at chip shown.state.images) k).mask j)
  image_means chip k j l n =
      means (λ h. ends h chip k j) _ _ (every false) (every true) (λ h. images_keep h chip k l j n) (images_fill false chip k l j n) (images_fill true chip k l j n)

  abbrev reply_at : ℕ → Reply
  reply_at n = get_or (said (on_machine b) ps start) n reply.NotPlayed

  lines : shown_at (on_machine b) ps shown ≡ said (on_machine b) ps start
  lines = laid_said (on_machine b) ps start

  as_said : (P : Reply → Type 0) (n : ℕ) → P (get_or (shown_at (on_machine b) ps shown) n reply.NotPlayed) → P (reply_at n)
  as_said P n h = subst (λ (ys : List Reply). P (get_or ys n reply.NotPlayed)) lines h

  -- any filling of the marked bits
  filled : (e : Ended) (t : ℕ) → Shows b t ps ps start e → (y : Bits) → StandFor e.buffers.images y → (h : H) × Same (ends h) y
  filled e t s y h =
      let w = reach b ps start ok sound y (subst (λ (z : Images). StandFor z y) s.images h) in
      (record { order = ps; allowed = itself (on_real b) ps back; first = w.0; stands = w.2; choices = w.1 }, w.3)

  exact : (e : Ended) (t : ℕ) → Shows b t ps ps start e → Exact b ps x e
  exact e t s = record {
    some = every false;
    images = λ chip k j l n.
        subst (λ (z : Images). MeansDoubt H (λ h. ends h chip k j) (bit_of (cell_at (image_at chip z) k).value j) (bit_of (cell_at (image_at chip z) k).mask j)) (sym s.images) (image_means chip k j l n);
    free = λ y h. filled e t s y h;
    kinds = λ n h. subst (λ (k : ℕ). (k ≡ 2) ↔ (is_byte (replied h n) ≡ true)) (sym (kind n)) (reply_kind_lem (reply_at n) (replied h n) (as_said (λ y. Like Keeps y (replied h n)) n (replies_keep h n)));
    replies = λ n j l k.
        subst (λ (v : ℕ). MeansDoubt H (λ h. bit_in (replied h n) j) (bit_of v j) (bit_of (get_or e.buffers.replies (4 * n + 2) 0) j)) (sym (value n))
        (subst (λ (m : ℕ). MeansDoubt H (λ h. bit_in (replied h n) j) (bit_of (reply_value (reply_at n)) j) (bit_of m j)) (sym (mask n))
        (reply_means (reply_at n) (λ h. replied h n) (every false) (every true) (sym (kind n) ∙ k)
        (λ h. as_said (λ y. Like Keeps y (replied h n)) n (replies_keep h n))
        (as_said (λ y. Like (Fills false) y (replied (every false) n)) n (replies_fill false n))
        (as_said (λ y. Like (Fills true) y (replied (every true) n)) n (replies_fill true n)) j l));
  }
    where
      all : e.buffers.replies ≡ padded (reply_lines ps (said (on_machine b) ps start))
      all = s.replies ∙ ap (λ (ys : List Reply). padded (reply_lines ps ys)) lines

      kind : (n : ℕ) → get_or e.buffers.replies (4 * n) 0 ≡ reply_kind (reply_at n)
      kind n = ap (λ (z : List ℕ). get_or z (4 * n) 0) all ∙ kind_at b ps start n

      value : (n : ℕ) → get_or e.buffers.replies (4 * n + 1) 0 ≡ reply_value (reply_at n)
      value n = ap (λ (z : List ℕ). get_or z (4 * n + 1) 0) all ∙ value_at b ps start n

      mask : (n : ℕ) → get_or e.buffers.replies (4 * n + 2) 0 ≡ reply_mask (reply_at n)
      mask n = ap (λ (z : List ℕ). get_or z (4 * n + 2) 0) all ∙ mask_at b ps start n

-- ---- the call
all_ok : (rs : List Record) → All RecordOk rs → All Ok rs
all_ok rs h = all_map RecordOk Ok (λ r k. k.1) rs h

pub doubt_exact : DoubtExact
doubt_exact text x e b rs ps p k (settled h) =
    let d = (demands text x e p).stops b rs k in
    let back = readable_back k.readable in
    exact b rs x k.readable.board.0.0 (fit_says x k.fits).kept (all_ok rs k.readable.fits) back (d.settled_alike h) e 0 (d.settled_shows h rs (itself (on_machine b) rs back))
doubt_exact text x e b rs ps p k (stopped n t s) =
    let d = (demands text x e p).stops b rs k in
    let back = back_filter (on_machine b) _ rs (readable_back k.readable) in
    exact b (before (on_machine b) t rs) x k.readable.board.0.0 (fit_says x k.fits).kept (all_filter Ok _ rs (all_ok rs k.readable.fits)) back (d.stop_alike n t s) e t
    (d.stop_shows n t s (before (on_machine b) t rs) (itself (on_machine b) _ back))

-- 0, and 6 or more, which is 6, 7 or 8
reason_of : (n : ℕ) → 6 ≤ n → n ≤ 8 → (r : Reason) × (n ≡ answer_number (reason_answer r))
reason_of n l h = split (eqb n 6) (λ e. (crowded, eqb-true n 6 e)) (λ e. split (eqb n 7) (λ f. (differ, eqb-true n 7 f)) (λ f. (lost, let a = eqb-false n 6 e in let c = eqb-false n 7 f in omega arith)))

pub answer_shows : AnswerShows
answer_shows text x e p h =
    let d = demands text x e p in
    ⊎_elim
    (λ z. let g = d.grounds.settled.0 z in (g.0, g.1, g.1, g.2, settled z))
    (λ z.
    let r = reason_of e.answer z d.grounds.no_other in
    let g = (d.grounds.stopped r.0).0 r.1 in
    (g.0, g.1, before (on_machine g.0) g.3 g.1, g.2, stopped r.0 g.3 (((d.stops g.0 g.1 g.2).stops_earliest r.0 g.3).1 g.4)))
    h
