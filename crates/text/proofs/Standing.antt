-- Where the check stands after each line: the records so far are good and stand at the front.
use Prim.Native.Nat.{ℕ, ◌+◌, ◌≤◌, ◌<◌}
use native.Mathlib.Omega.{arith}
use native.Mathlib.Nat.{zero-add}
use mathlib.Core.Path.{◌≡◌, refl, sym, ap, subst, ◌∙◌}
use mathlib.Core.List.{List, [], ◌∷◌, ◌++◌, append_assoc, append-nil}
use lib.ListN.{length, drop, length-append}
use Rattle.std.specs.Prelude.{Option, Some, None}
use Rattle.record.specs.declared.Record.{Record}
use Rattle.record.specs.declared.Board.{Board}
use Rattle.record.specs.declared.Answer.{Answer}
use Rattle.field.specs.Reads.{Stands}
use Rattle.field.proofs.Reading.{Got, stands_join, stands_length}
use Rattle.line.specs.Records.{spelled, RecordOk}
use Rattle.line.specs.Boards.{spelled_board, BoardOk}
use Rattle.line.specs.Places.{first_bad_field, first_bad_of_board}
use Rattle.line.proofs.OutputLaws.{spelled_length_min, board_length}
use Rattle.line.proofs.Whole.{nil_of}
use Rattle.text.specs.declared.buses.Buses.{Buses}
use Rattle.text.specs.Buses.{all_closed, moved, onwards, after, buses_after}
use Rattle.text.specs.Stamps.{last_stamp}
use Rattle.text.specs.Texts.{spelled_all, spelled_trace, Front, Wrong, Checks, accepted, refusal}
use Rattle.text.specs.Texts.Wrong.{no_record, falls, cannot}
use Rattle.text.specs.Texts.Refused.{no_board, bad_line}
use Rattle.text.proofs.Goods.{Good, acceptable_of, good_none, good_snoc, after_snoc, last_snoc, all_snoc}
use Rattle.text.proofs.OneReading.{some, checks_readable, checks_refused}

pub record So (text : List ℕ) (b : Board) (at number last : ℕ) (buses : Buses) : Type 0 where
  pub rs : List Record
  pub board : BoardOk b
  pub good : Good 0 (Some all_closed) rs
  pub stands : Stands text 0 (spelled_trace b rs)
  pub place : at ≡ length (spelled_trace b rs)
  pub count : number ≡ length rs + 2
  pub stamp : last ≡ last_stamp 0 rs
  pub state : buses_after rs ≡ Some buses

trace_none : (b : Board) → spelled_trace b [] ≡ spelled_board b
unfolding spelled_trace spelled_all
trace_none b = append-nil (spelled_board b)

trace_snoc : (b : Board) (rs : List Record) (r : Record) → spelled_trace b (rs ++ (r ∷ [])) ≡ spelled_trace b rs ++ spelled r
unfolding spelled_trace
trace_snoc b rs r = ap (λ (l : List ℕ). spelled_board b ++ l) (all_snoc rs r) ∙ sym (append_assoc (spelled_board b) (spelled_all rs) (spelled r))

-- after the board's line
pub so_start : {text : List ℕ} {b : Board} {p : ℕ} {buses : Buses} → Got spelled_board BoardOk text 0 b p → buses ≡ all_closed → So text b p 2 0 buses
unfolding last_stamp after
so_start {text} {b} {p} g e = record {
  rs = [];
  board = g.ok;
  good = good_none 0 all_closed;
  stands = subst (λ (l : List ℕ). Stands text 0 l) (sym (trace_none b)) g.stands;
  place = g.next ∙ zero-add (length (spelled_board b)) ∙ ap length (sym (trace_none b));
  count = refl;
  stamp = refl;
  state = ap Some (sym e);
}

pub got_board_place : {text : List ℕ} {b : Board} {p : ℕ} → Got spelled_board BoardOk text 0 b p → (2 ≤ p) × (p ≤ length text)
got_board_place {text} {b} g = let l = board_length b in let s = stands_length text (spelled_board b) 0 g.stands (omega arith) in (omega (arith, g.next), omega (arith, g.next))

pub got_record_place : {text : List ℕ} {at p : ℕ} {r : Record} → Got spelled RecordOk text at r p → (at + 7 ≤ p) × (p ≤ length text)
got_record_place {text} {at} {p} {r} g =
    let l = spelled_length_min r g.ok.0 in
    let s = stands_length text (spelled r) at g.stands (some r g.ok) in
    (omega (arith, g.next), omega (arith, g.next))

module _ {text : List ℕ} {b : Board} {at number last : ℕ} {buses : Buses} (s : So text b at number last buses) where
  front : Front text b s.rs
  front = record { board = s.board; fits = s.good.fits; acceptable = acceptable_of s.good; stands = s.stands }

  -- what is at the place reached, as seen from the front
  here : (w : List ℕ) → Stands text at w → Stands text (length (spelled_trace b s.rs)) w
  here w h = subst (λ (k : ℕ). Stands text k w) s.place h

  refuse : {a : Answer} {f : ℕ} → Wrong text (length (spelled_trace b s.rs)) s.rs a f → Checks text (refusal a number f)
  refuse {a} {f} w = subst (λ (k : ℕ). Checks text (refusal a k f)) (sym s.count) (checks_refused a (length s.rs + 2) f (bad_line b s.rs front w))

  -- the next line is no record's
  pub so_bad : {f : ℕ} → at < length text → ((r : Record) → RecordOk r → Stands text at (spelled r) → ⊥) → f ≡ first_bad_field (drop at text) → Checks text (refusal Answer.BadLine number f)
  so_bad h n e =
      subst (λ (k : ℕ). Checks text (refusal Answer.BadLine number k)) (sym (e ∙ ap (λ (k : ℕ). first_bad_field (drop k text)) s.place))
      (refuse (no_record (omega (arith, s.place)) (λ r o t. n r o (subst (λ (k : ℕ). Stands text k (spelled r)) (sym s.place) t))))

  module _ {r : Record} {p : ℕ} (g : Got spelled RecordOk text at r p) where
    -- it falls back in time
    pub so_back : r.stamp < last → Checks text (refusal Answer.BackInTime number 0)
    so_back h = refuse (falls r g.ok (here (spelled r) g.stands) (omega (arith, s.stamp)))

    -- it is impossible
    pub so_impossible : last ≤ r.stamp → moved buses r.event ≡ None → Checks text (refusal Answer.Impossible number 0)
    so_impossible h e = refuse (cannot r g.ok (here (spelled r) g.stands) (omega (arith, s.stamp)) (ap (λ (m : Option Buses). onwards m r.event) s.state ∙ e))

    -- it is good
    pub so_more : {next : Buses} → last ≤ r.stamp → moved buses r.event ≡ Some next → So text b p (number + 1) r.stamp next
    so_more {next} h e = record {
      rs = s.rs ++ (r ∷ []);
      board = s.board;
      good = good_snoc s.rs r s.good g.ok (omega (arith, s.stamp)) moves;
      stands = subst (λ (l : List ℕ). Stands text 0 l) (sym (trace_snoc b s.rs r)) (stands_join text (spelled_trace b s.rs) (spelled r) 0 s.stands (subst (λ (k : ℕ). Stands text k (spelled r)) (s.place ∙ sym (zero-add _)) g.stands));
      place = omega (arith, g.next, s.place, ap length (trace_snoc b s.rs r), length-append (spelled_trace b s.rs) (spelled r));
      count = omega (arith, s.count, length-append s.rs (r ∷ []));
      stamp = sym (last_snoc 0 s.rs r);
      state = after_snoc (Some all_closed) s.rs r ∙ moves;
    }
      where
        moves : onwards (after (Some all_closed) s.rs) r.event ≡ Some next
        moves = ap (λ (m : Option Buses). onwards m r.event) s.state ∙ e

  -- there is no next line
  pub so_end : {p : ℕ} → Got spelled_board BoardOk text 0 b p → length text ≤ at → Checks text (accepted b p)
  so_end {p} g h =
      subst (λ (k : ℕ). Checks text (accepted b k)) (sym (g.next ∙ zero-add (length (spelled_board b))))
      (checks_readable b s.rs (record { board = s.board; fits = s.good.fits; acceptable = acceptable_of s.good; is = s.stands.is ∙ ap (λ (l : List ℕ). spelled_trace b s.rs ++ l) (nil_of s.stands.rest nothing) ∙ append-nil (spelled_trace b s.rs) }))
    where
      nothing : length s.stands.rest ≡ 0
      nothing = omega (arith, s.place, ap length s.stands.is, length-append (spelled_trace b s.rs) s.stands.rest)

pub no_board_lem : {text : List ℕ} {f : ℕ} → ((b : Board) → BoardOk b → Stands text 0 (spelled_board b) → ⊥) → f ≡ first_bad_of_board text → Checks text (refusal Answer.BadLine 1 f)
no_board_lem {text} n e = subst (λ (k : ℕ). Checks text (refusal Answer.BadLine 1 k)) (sym e) (checks_refused Answer.BadLine 1 (first_bad_of_board text) (no_board n))
