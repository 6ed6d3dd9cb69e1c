-- What is taken from a feed, and what an answer of `next` says of the records that are left.
use Prim.Native.Nat.{ℕ, ◌≤◌}
use native.Mathlib.Omega.{arith}
use mathlib.Core.Path.{◌≡◌, refl, sym, ap, subst, ◌∙◌}
use Rattle.std.specs.Prelude.{Option, Some, None}
use Rattle.std.specs.declared.iter.Take.{Take}
use Rattle.std.specs.Iterator.Adapters.{take_source, take_count, take_steps}
use lib.ListN.{length, get_or, set}
use mathlib.Core.List.{List, [], ◌∷◌}
use Rattle.record.specs.declared.Record.{Record}
use Rattle.weave.specs.Feeding.{LevelFeed, TraceFeed, Place, in_levels, in_trace, Feed, over, ahead, level_feed, trace_feed, OfPart, Feeds, FeedsLevels, FeedsTrace}
use Rattle.weave.specs.declared.Weave.{Weave}
use Rattle.capture.specs.declared.Part.{Part}
use Rattle.weave.specs.Weaving.{head_number, number_ahead, feeds_of, Least, TakesHead, OwnParts, Left, WovenBy, nothing, following, Weaves}
use Rattle.weave.proofs.WeaveLaws.{woven_done, woven_next}
use Rattle.weave.proofs.FeedLaws.{feed_levels, feed_trace, levels_number, trace_number}

-- the feed's head was x, it goes on from there, and n is the number of its head now
pub record Took (levels trace : List ℕ) (x : Record) (n : ℕ) (old new : Feed) : Type 0 where
  pub place : Place
  pub was : old ≡ ahead x place
  pub feeds : Feeds levels trace place new
  pub number : n ≡ head_number new

module _ {levels trace : List ℕ} {x : Record} {n : ℕ} where
  pub levels_took : (old new : LevelFeed) → TakesHead (FeedsLevels levels) old (Some (x, n)) new → Took levels trace x n (level_feed old) (level_feed new)
  levels_took None new t = absurd (cc (t.0))
  levels_took (Some (y, p)) new t =
      let both : (x, n) ≡ (y, number_ahead new) = cc (t.0) in
      record { place = in_levels p; was = ap (λ (q : Record × ℕ). ahead q.0 (in_levels p)) (sym both); feeds = feed_levels t.1; number = ap (λ (q : Record × ℕ). q.1) both ∙ levels_number new }

  pub trace_took : (old new : TraceFeed) → TakesHead (FeedsTrace trace) old (Some (x, n)) new → Took levels trace x n (trace_feed old) (trace_feed new)
  trace_took None new t = absurd (cc (t.0))
  trace_took (Some (y, p)) new t =
      let both : (x, n) ≡ (y, number_ahead new) = cc (t.0) in
      record { place = in_trace p.part p.at; was = ap (λ (q : Record × ℕ). ahead q.0 (in_trace p.part p.at)) (sym both); feeds = feed_trace t.1; number = ap (λ (q : Record × ℕ). q.1) both ∙ trace_number new }

-- a feed that goes on stays of its part
own_stays : (trace : List ℕ) (x : Record) (n : ℕ) (old new : TraceFeed) → TakesHead (FeedsTrace trace) old (Some (x, n)) new → (part : Part) → OfPart part old → OfPart part new
own_stays trace x n None new t part h = absurd (cc (t.0))
own_stays trace x n (Some (y, p)) new t part h = subst (λ (c : Part). OfPart c new) h t.1.own_part

pub levels_over : (levels : List ℕ) (old new : LevelFeed) → TakesHead (FeedsLevels levels) old None new → level_feed old ≡ over
levels_over levels None new t = refl
levels_over levels (Some (y, p)) new t = absurd (cc (t.0))

pub trace_over : (trace : List ℕ) (old new : TraceFeed) → TakesHead (FeedsTrace trace) old None new → trace_feed old ≡ over
trace_over trace None new t = refl
trace_over trace (Some (y, p)) new t = absurd (cc (t.0))

next_by : {v : Weave} {h : Option Record} {m : List Record} → WovenBy v h m → (x : Record) → h ≡ Some x → (m' : List Record) × Left v m' × (m ≡ x ∷ m')
next_by nothing x e = absurd (cc)
next_by (following y m l) x e = let same : y ≡ x = cc in (m, l, ap (λ (z : Record). z ∷ m) same)

done_by : {v : Weave} {h : Option Record} {m : List Record} → WovenBy v h m → h ≡ None → m ≡ []
done_by nothing e = refl
done_by (following y m l) e = absurd (cc)

module _ {w v : Weave} where
  pub then_next : {x : Record} → Weaves w (Some x) v → (m : List Record) → Left w m → (m' : List Record) × Left v m' × (m ≡ x ∷ m')
  then_next {x} k m l = next_by (k.weaves m l) x refl

  then_done : Weaves w None v → (m : List Record) → Left w m → m ≡ []
  then_done k m l = done_by (k.weaves m l) refl

-- where the records are taken up to a count that they don't go beyond, none is left at the end
pub none_left : (w v : Take Weave) → take_steps Weaves w None v → (m : List Record) → Left (take_source w) m → length m ≤ take_count w → m ≡ []
none_left w v s [] l n = refl
none_left w v s (x ∷ m) l n = then_done (s (omega arith)) (x ∷ m) l

-- feed i of w goes on, and r is what is taken from it: nothing else changes
pub record TakesFrom (w v : Weave) (i : ℕ) (r : Option (Record × ℕ)) : Type 0 where
  pub feed : Feed
  pub levels : v.levels ≡ w.levels
  pub trace : v.trace ≡ w.trace
  pub numbers : v.numbers ≡ w.numbers
  pub feeds : feeds_of v ≡ set (feeds_of w) i feed
  pub none : r ≡ None → get_or (feeds_of w) i over ≡ over
  pub some : (x : Record) (n : ℕ) → r ≡ Some (x, n) → Took w.levels.now w.trace.now x n (get_or (feeds_of w) i over) feed
  pub own_parts : (x : Record) (n : ℕ) → r ≡ Some (x, n) → OwnParts w → OwnParts v

module _ (w v : Weave) (i : ℕ) (r : Option (Record × ℕ)) (ls : v.levels ≡ w.levels) (ts : v.trace ≡ w.trace) (ns : v.numbers ≡ w.numbers) where
  pub levels_taken : (old new : LevelFeed) → TakesHead (FeedsLevels w.levels.now) old r new → get_or (feeds_of w) i over ≡ level_feed old → feeds_of v ≡ set (feeds_of w) i (level_feed new) → (OwnParts w → OwnParts v) → TakesFrom w v i r
  levels_taken old new t o fs ps = record {
    feed = level_feed new;
    levels = ls;
    trace = ts;
    numbers = ns;
    feeds = fs;
    none = λ e. o ∙ levels_over w.levels.now old new (subst (λ (q : Option (Record × ℕ)). TakesHead (FeedsLevels w.levels.now) old q new) e t);
    some = λ x n e.
        subst (λ (f : Feed). Took w.levels.now w.trace.now x n f (level_feed new)) (sym o)
        (levels_took old new (subst (λ (q : Option (Record × ℕ)). TakesHead (FeedsLevels w.levels.now) old q new) e t));
    own_parts = λ x n e. ps;
  }

  pub trace_taken : (old new : TraceFeed) → TakesHead (FeedsTrace w.trace.now) old r new → get_or (feeds_of w) i over ≡ trace_feed old → feeds_of v ≡ set (feeds_of w) i (trace_feed new) → (((part : Part) → OfPart part old → OfPart part new) → OwnParts w → OwnParts v) → TakesFrom w v i r
  trace_taken old new t o fs ps = record {
    feed = trace_feed new;
    levels = ls;
    trace = ts;
    numbers = ns;
    feeds = fs;
    none = λ e. o ∙ trace_over w.trace.now old new (subst (λ (q : Option (Record × ℕ)). TakesHead (FeedsTrace w.trace.now) old q new) e t);
    some = λ x n e.
        subst (λ (f : Feed). Took w.levels.now w.trace.now x n f (trace_feed new)) (sym o)
        (trace_took old new (subst (λ (q : Option (Record × ℕ)). TakesHead (FeedsTrace w.trace.now) old q new) e t));
    own_parts = λ x n e. ps (own_stays w.trace.now x n old new (subst (λ (q : Option (Record × ℕ)). TakesHead (FeedsTrace w.trace.now) old q new) e t));
  }

module _ {w v : Weave} {i : ℕ} {r : Option (Record × ℕ)} (k : Least w.numbers i) (t : TakesFrom w v i r) where
  pub next_none : r ≡ None → Weaves w None v
  next_none e = woven_done w k (t.none e) (t.levels, t.trace)

  pub next_some : {x : Record} {n : ℕ} → r ≡ Some (x, n) → Weaves w (Some x) (record v { numbers = set v.numbers i n })
  next_some {x} {n} e =
      let z = t.some x n e in
      woven_next w k (record v { numbers = set v.numbers i n }) z.was z.feeds z.number (ap (λ (l : List ℕ). set l i n) t.numbers) t.feeds t.levels t.trace (t.own_parts x n e)
