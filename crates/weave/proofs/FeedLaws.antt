-- A feed passes over what gives nothing: what is still to come stays.
use Prim.Native.Nat.{ℕ, ◌≤◌, ◌<◌}
use mathlib.Core.Path.{◌≡◌, refl, sym, ap, subst, ◌∙◌}
use mathlib.Core.Bool.{true, false}
use Rattle.std.specs.Prelude.{Some, None}
use mathlib.Core.List.{List, ◌∷◌}
use lib.ListN.{length}
use Rattle.law.specs.Words.{filter, keep}
use Rattle.record.specs.declared.Record.{Record}
use Rattle.field.specs.Reads.{Stands}
use Rattle.field.proofs.Reading.{Got}
use Rattle.line.specs.Records.{spelled, RecordOk}
use Rattle.level.specs.declared.Level.{Level}
use Rattle.level.specs.Spelled.{spelled_level, LevelOk}
use Rattle.decode.specs.declared.Out.{Out}
use Rattle.decode.specs.declared.Out.TheVariants.{Nothing, One, Two}
use Rattle.decode.specs.declared.bits.Bits.{Bits}
use Rattle.decode.specs.declared.Turn.{Turn}
use Rattle.decode.specs.Bits.{events_of}
use Rattle.decode.specs.Decoded.{turn_of, record_at, decoded_from}
use Rattle.capture.specs.declared.Part.{Part}
use Rattle.capture.specs.Taken.{is_of, part_of}
use Rattle.capture.specs.OneByOne.{records, levels}
use Rattle.capture.proofs.OneByOne.{some_record, some_level, took, not_none, at_end}
use Rattle.weave.specs.declared.feed.Behind.{Behind}
use Rattle.weave.specs.declared.feed.Within.{Within}
use Rattle.weave.specs.Weaving.{head_number, number_ahead}
use Rattle.weave.specs.Feeding.{LevelFeed, TraceFeed, behind_of, within_of, give_by, give_of, LevelsLeft, TraceLeft, letter_of, Passes, in_levels, in_trace, level_feed, trace_feed, PlaceLeft, Gives, done, next, FeedsLevels, FeedsTrace, Feeds}

-- ---- the capture
module _ (text : List ℕ) (at : ℕ) (l : Level) (s : Bits) where
  given : (o : Out) (trace : List ℕ) (xs : List Record) → (o ≡ Nothing → ⊥) → LevelsLeft text (behind_of at l s o) xs → Gives text trace (level_feed (give_by at l s o)) xs
  unfolding PlaceLeft events_of
  given Nothing trace xs h k = absurd (h refl)
  given (One e) trace xs h k =
      subst (Gives text trace (level_feed (give_by at l s (One e)))) (sym k.is)
      (next (record_at l.stamp e) (in_levels (behind_of at l s Nothing)) _ (record { ls = k.ls; from = k.from; is = refl }))
  given (Two d e) trace xs h k =
      subst (Gives text trace (level_feed (give_by at l s (Two d e)))) (sym k.is)
      (next (record_at l.stamp d) (in_levels (behind_of at l s (One e))) _ (record { ls = k.ls; from = k.from; is = refl }))

-- what is still to come at `from` is still to come at `to`
pub record Still (text : List ℕ) (from to : Behind) : Type 0 where
  pub still : (xs : List Record) → LevelsLeft text from xs → LevelsLeft text to xs

-- where the search begins nothing is passed over yet
pub levels_begin : {text : List ℕ} {from : Behind} → Still text from from
levels_begin = record { still = λ xs k. k }

module _ {text : List ℕ} {from to : Behind} (still : Still text from to) where
  pub levels_found : {r : LevelFeed} → (to.more ≡ Nothing → ⊥) → r ≡ give_of to → FeedsLevels text from r
  levels_found {r} h e = record {
    feeds = λ trace xs k. subst (λ (f : LevelFeed). Gives text trace (level_feed f) xs) (sym e) (given text to.at to.last to.bits to.more trace xs h (still.still xs k));
  }

  module _ (h : to.more ≡ Nothing) where
    bare : (xs : List Record) → LevelsLeft text from xs → LevelsLeft text (behind_of to.at to.last to.bits Nothing) xs
    bare xs k = subst (λ (o : Out). LevelsLeft text (behind_of to.at to.last to.bits o) xs) h (still.still xs k)

    pub levels_none : to.at < length text → ((l : Level) → LevelOk l → Stands text to.at (spelled_level l) → ⊥) → FeedsLevels text from None
    unfolding levels
    levels_none lt n = record { feeds = λ trace xs k. let z = bare xs k in absurd (not_none z.ls z.from lt n) }

    pub levels_end : length text ≤ to.at → FeedsLevels text from None
    unfolding decoded_from events_of
    levels_end le = record {
      feeds = λ trace xs k.
          let z = bare xs k in
          subst (Gives text trace (level_feed None)) (sym (z.is ∙ ap (decoded_from to.bits to.last) (at_end some_level z.ls z.from le))) done;
    }

    pub levels_on : {l : Level} {p : ℕ} → Got spelled_level LevelOk text to.at l p → {t : Turn Bits} → t ≡ turn_of to.bits to.last l → Still text from (behind_of p l t.bits t.out)
    unfolding decoded_from events_of levels
    levels_on {l} {p} g {t} turn = record {
      still = λ xs k.
          let z = bare xs k in
          let w = took some_level z.ls z.from g in
          subst (λ (u : Turn Bits). LevelsLeft text (behind_of p l u.bits u.out) xs) (sym turn)
          (record { ls = w.0; from = w.1; is = z.is ∙ ap (decoded_from to.bits to.last) w.2 });
    }

-- ---- the logger's trace
part_in : (w : Part) (r : Record) (rs : List Record) → is_of w r.event ≡ true → part_of w (r ∷ rs) ≡ r ∷ part_of w rs
unfolding filter keep
part_in w r rs e = rw e

pub part_out : (w : Part) (r : Record) (rs : List Record) → is_of w r.event ≡ false → part_of w (r ∷ rs) ≡ part_of w rs
unfolding filter keep
part_out w r rs e = rw e

-- what is still to come from `from` on is still to come from `at` on
pub record StillTrace (text : List ℕ) (w : Part) (from at : ℕ) : Type 0 where
  pub still : (xs : List Record) → TraceLeft text w from xs → TraceLeft text w at xs

module _ {text : List ℕ} {w : Part} {from : ℕ} where
  pub trace_begin : StillTrace text w from from
  trace_begin = record { still = λ xs k. k }

  module _ {at : ℕ} (s : StillTrace text w from at) where
    pub trace_pass : {letter to : ℕ} → letter ≡ letter_of w → Passes text letter at to → StillTrace text w from to
    trace_pass e p = record { still = λ xs k. p.passes w (sym e) xs (s.still xs k) }

    pub trace_none : at < length text → ((r : Record) → RecordOk r → Stands text at (spelled r) → ⊥) → FeedsTrace text (within_of w from) None
    unfolding records
    trace_none h n = record { feeds = λ levels xs k. let z = s.still xs k in absurd (not_none z.rs z.from h n); own_part = tt }

    pub trace_end : length text ≤ at → FeedsTrace text (within_of w from) None
    unfolding filter
    trace_end h = record {
      feeds = λ levels xs k. let z = s.still xs k in subst (Gives levels text (trace_feed None)) (sym (z.is ∙ ap (part_of w) (at_end some_record z.rs z.from h))) done;
      own_part = tt;
    }

    module _ {r : Record} {p : ℕ} (g : Got spelled RecordOk text at r p) where
      pub trace_found : is_of w r.event ≡ true → FeedsTrace text (within_of w from) (Some (r, within_of w p))
      unfolding PlaceLeft records
      trace_found e = record {
        feeds = λ levels xs k.
            let z = s.still xs k in
            let t = took some_record z.rs z.from g in
            subst (Gives levels text (trace_feed (Some (r, within_of w p)))) (sym (z.is ∙ ap (part_of w) t.2 ∙ part_in w r t.0 e))
            (next r (in_trace w p) (part_of w t.0) (record { rs = t.0; from = t.1; is = refl }));
        own_part = refl;
      }

      pub trace_on : is_of w r.event ≡ false → StillTrace text w from p
      unfolding records
      trace_on e = record {
        still = λ xs k.
            let z = s.still xs k in
            let t = took some_record z.rs z.from g in
            record { rs = t.0; from = t.1; is = z.is ∙ ap (part_of w) t.2 ∙ part_out w r t.0 e };
      }

-- ---- either
pub feed_levels : {levels trace : List ℕ} {p : Behind} {r : LevelFeed} → FeedsLevels levels p r → Feeds levels trace (in_levels p) (level_feed r)
unfolding PlaceLeft
feed_levels {trace = trace} f = record { feeds = f.feeds trace }

pub feed_trace : {levels trace : List ℕ} {p : Within} {r : TraceFeed} → FeedsTrace trace p r → Feeds levels trace (in_trace p.part p.at) (trace_feed r)
unfolding PlaceLeft
feed_trace {levels} f = record { feeds = f.feeds levels }

pub levels_number : (f : LevelFeed) → number_ahead f ≡ head_number (level_feed f)
levels_number None = refl
levels_number (Some (r, p)) = refl

pub trace_number : (f : TraceFeed) → number_ahead f ≡ head_number (trace_feed f)
trace_number None = refl
trace_number (Some (r, p)) = refl
