-- A line record that repeats the state of its line does nothing: the orders of a stamp agree with such records where they agree without.
use mathlib.Core.Path.{◌≡◌, refl, sym, ap, subst₂, ◌∙◌}
use mathlib.Core.Bool.{Bool, true, false}
use mathlib.Core.List.{List, [], ◌∷◌, ◌++◌, append_assoc, append-nil}
use Prim.Native.Nat.{ℕ, ◌+◌, ◌≤◌, ◌<◌}
use native.Mathlib.Numerals.{add-one}
use native.Mathlib.Omega.{arith}
use lib.ListN.{length, take, drop, get_or, set, length-set}
use lib.Seq.{take-suc-set}
use borrow.Author.Tests.{not-true}
use Rattle.law.specs.Choice.{true_not_false}
use Rattle.law.specs.Deciding.{Decides, decides_as}
use Rattle.std.proofs.Common.{rules, drop_of_length-le, drop-cons, length-take-le}
use Rattle.law.specs.Words.{All, pick}
use Rattle.record.specs.declared.Board.{Board}
use Rattle.record.specs.declared.Record.{Record}
use Rattle.record.specs.declared.Event.{Event}
use Rattle.record.specs.declared.Event.TheVariants as event
use Rattle.record.specs.declared.LineEvent.TheVariants.{SupplyOn, SupplyOff, LockOn, LockOff}
use Rattle.record.specs.declared.Lines.{Lines}
use Rattle.controls.specs.declared.Controls.{Controls}
use Rattle.controls.specs.Play.{event_moved, moved_of}
use Rattle.meaning.specs.Meaning.{L, most}
use Rattle.tied.specs.Orders.{Order, done, bus_first, line_first, after, replies, AnyTwo}
use Rattle.orders.specs.declared.Records.{Records}
use Rattle.orders.specs.declared.tying.Tied.{Tied}
use Rattle.orders.specs.declared.Told.{Told}
use Rattle.orders.specs.Stamp.{played, buses_from, lines_from, Settled}
use Rattle.orders.specs.Verdicts.{says, OrdersAgree}
use Rattle.orders.specs.LineStates.{of_line, OfBus, repeats_of, lines_next, telling, told_with, OnlyTelling}

-- ---- one record: where it leaves the lines, and where it does nothing
module _ (b : Board) where
  lines_by : (s : Controls) (e : Event) → (event_moved b s e).controls.lines ≡ lines_next s.lines e
  lines_by s e = search rules

  lines_played : (s : Controls) (r : Record) → (played b s r).lines ≡ lines_next s.lines r.event
  unfolding moved_of
  lines_played s r = lines_by s r.event

  bus_by : (l : Lines) (e : Event) → of_line e ≡ false → lines_next l e ≡ l
  bus_by l e o = search rules

  bus_keeps : (s : Controls) (r : Record) → OfBus r → (played b s r).lines ≡ s.lines
  bus_keeps s r o = lines_played s r ∙ bus_by s.lines r.event o

  repeats_by : (s : Controls) (e : Event) → repeats_of s.lines e ≡ true → (event_moved b s e).controls ≡ s
  repeats_by s (event.Flash e) q = absurd (true_not_false (sym q))
  repeats_by s (event.Eeprom e) q = absurd (true_not_false (sym q))
  repeats_by s (event.Line SupplyOn) q = λ i. record { flash = s.flash; eeprom = s.eeprom; lines = record { supply = sym q i; lock = s.lines.lock } }
  repeats_by s (event.Line SupplyOff) q = let off : s.lines.supply ≡ false = not-true _ q in rw off
  repeats_by s (event.Line LockOn) q = rw q
  repeats_by s (event.Line LockOff) q =
      let free : s.lines.lock ≡ false = not-true _ q in
      λ i. record { flash = s.flash; eeprom = s.eeprom; lines = record { supply = s.lines.supply; lock = sym free i } }

  repeats_stays : (s : Controls) (r : Record) → repeats_of s.lines r.event ≡ true → played b s r ≡ s
  unfolding moved_of
  repeats_stays s r q = repeats_by s r.event q

-- ---- the orders with such records and without
module _ {R : Type 0} (b : Board) (reply : Controls → Record → R) where
  abbrev end_of : {bs ls : List Record} → Order Record Record bs ls → Controls → Controls
  end_of o s = after (played b) reply (played b) o s

  abbrev said_in : {bs ls : List Record} → Order Record Record bs ls → Controls → List R
  said_in o s = replies (played b) reply (played b) o s

  -- an order of the same bus records with the line records ms, which from s gives what o gives
  record Like {bs ls : List Record} (o : Order Record Record bs ls) (s : Controls) (ms : List Record) : Type 0 where
    pub other : Order Record Record bs ms
    pub end : end_of other s ≡ end_of o s
    pub said : said_in other s ≡ said_in o s

  like_bus : {bs ls ms : List Record} (r : Record) (o : Order Record Record bs ls) (s : Controls) → Like o (played b s r) ms → Like (bus_first {b = r} o) s ms
  unfolding after replies
  like_bus r o s x = record { other = bus_first x.other; end = x.end; said = ap (λ (w : List R). reply s r ∷ w) x.said }

  like_line : {bs ls ms : List Record} (r : Record) (o : Order Record Record bs ls) (s : Controls) → Like o (played b s r) ms → Like (line_first {l = r} o) s (r ∷ ms)
  unfolding after replies
  like_line r o s x = record { other = line_first x.other; end = x.end; said = x.said }

  module _ (r : Record) (s : Controls) (q : played b s r ≡ s) where
    like_less : {bs ls ms : List Record} (o : Order Record Record bs ls) → Like o s ms → Like (line_first {l = r} o) s ms
    unfolding after replies
    like_less o x = record { other = x.other; end = x.end ∙ ap (end_of o) (sym q); said = x.said ∙ ap (said_in o) (sym q) }

    like_more : {bs ls ms : List Record} (o : Order Record Record bs ls) → Like o s ms → Like o s (r ∷ ms)
    unfolding after replies
    like_more o x = record { other = line_first x.other; end = ap (end_of x.other) q ∙ x.end; said = ap (said_in x.other) q ∙ x.said }

  -- for each order with them one without
  line_less : {bs ls : List Record} (r : Record) (o : Order Record Record bs ls) → ((s : Controls) (l : Lines) → s.lines ≡ l → Like o s (telling l ls)) →
      (s : Controls) (l : Lines) → s.lines ≡ l → (t : Bool) → repeats_of l r.event ≡ t → Like (line_first {l = r} o) s (pick t (telling l ls) (r ∷ telling (lines_next l r.event) ls))
  line_less r o f s l e true q = like_less r s (repeats_stays b s r (rw e q)) o (f s l e)
  line_less r o f s l e false q = like_line r o s (f (played b s r) _ (lines_played b s r ∙ ap (λ (k : Lines). lines_next k r.event) e))

  less : {bs ls : List Record} (o : Order Record Record bs ls) → All OfBus bs → (s : Controls) (l : Lines) → s.lines ≡ l → Like o s (telling l ls)
  unfolding telling All
  less done a s l e = record { other = done; end = refl; said = refl }
  less (bus_first {b = r} o) a s l e = like_bus r o s (less o a.1 (played b s r) l (bus_keeps b s r a.0 ∙ e))
  less (line_first {l = r} o) a s l e = line_less r o (λ t k d. less o a t k d) s l e (repeats_of l r.event) refl

  -- for each order without them one with them
  past : {bs ms : List Record} (r : Record) (ls : List Record) (l : Lines) →
      ((cs : List Record) → All OfBus cs → (s : Controls) → s.lines ≡ lines_next l r.event → (o : Order Record Record cs ms) → Like o s ls) →
      All OfBus bs → (s : Controls) → s.lines ≡ l → (o : Order Record Record bs (r ∷ ms)) → Like o s (r ∷ ls)
  unfolding All
  past r ls l f a s e (bus_first {b = d} o) = like_bus d o s (past r ls l f a.1 (played b s d) (bus_keeps b s d a.0 ∙ e) o)
  past r ls l f a s e (line_first o) = like_line r o s (f _ a (played b s r) (lines_played b s r ∙ ap (λ (k : Lines). lines_next k r.event) e) o)

  module _ (r : Record) (ls : List Record) (l : Lines)
      (f : (bs : List Record) → All OfBus bs → (s : Controls) (k : Lines) → s.lines ≡ k → (o : Order Record Record bs (telling k ls)) → Like o s ls) where
    line_more : (t : Bool) → repeats_of l r.event ≡ t → {bs : List Record} → All OfBus bs → (s : Controls) → s.lines ≡ l →
        (o : Order Record Record bs (pick t (telling l ls) (r ∷ telling (lines_next l r.event) ls))) → Like o s (r ∷ ls)
    line_more true q a s e o = like_more r s (repeats_stays b s r (rw e q)) o (f _ a s l e o)
    line_more false q a s e o = past r ls l (λ cs c t d p. f cs c t _ d p) a s e o

  more : (ls : List Record) {bs : List Record} → All OfBus bs → (s : Controls) (l : Lines) → s.lines ≡ l → (o : Order Record Record bs (telling l ls)) → Like o s ls
  unfolding telling
  more [] a s l e o = record { other = o; end = refl; said = refl }
  more (r ∷ ls) a s l e o = line_more r ls l (λ cs. more ls {bs = cs}) (repeats_of l r.event) refl a s e o

  module _ (bs ls : List Record) (a : All OfBus bs) (s : Controls) where
    with_them : AnyTwo (played b) reply (played b) bs (telling s.lines ls) s → AnyTwo (played b) reply (played b) bs ls s
    with_them h o p =
        let x = less o a s s.lines refl in
        let y = less p a s s.lines refl in
        let z = h x.other y.other in
        (sym x.end ∙ z.0 ∙ y.end, sym x.said ∙ z.1 ∙ y.said)

    without : AnyTwo (played b) reply (played b) bs ls s → AnyTwo (played b) reply (played b) bs (telling s.lines ls) s
    without h o p =
        let x = more ls a s s.lines refl o in
        let y = more ls a s s.lines refl p in
        let z = h x.other y.other in
        (sym x.end ∙ z.0 ∙ y.end, sym x.said ∙ z.1 ∙ y.said)

-- what decides whether the orders without them agree decides it of all: of any records, whatever may share a stamp
pub settled_telling : (b : Board) (bs ls ms : List Record) (s : Controls) → ms ≡ telling s.lines ls → All OfBus bs → {d : Bool} → Decides d (OrdersAgree b bs ms s) → Decides d (OrdersAgree b bs ls s)
unfolding OrdersAgree
settled_telling b bs ls ms s e a g = decides_as (rw e at g) (with_them b (says b) bs ls a s) (without b (says b) bs ls a s)

-- the same of what is tied
pub settled_tied : (h r : Tied) (s : Controls) → OnlyTelling h s.lines r → All OfBus (buses_from h 0) → {d : Bool} → Decides d (Settled r s) → Decides d (Settled h s)
unfolding Settled OrdersAgree
settled_tied h r s k a {d} g =
    let b : Decides d (OrdersAgree h.board (buses_from h 0) (lines_from r 0) s)
    = subst₂ (λ (x : Board) (y : Records 8). Decides d (OrdersAgree x (drop 0 (take y.count y.records)) (lines_from r 0) s)) k.board k.buses g in
    settled_telling h.board (buses_from h 0) (lines_from h 0) (lines_from r 0) s k.lines a b

-- ---- the loop over the line records xs: those kept, and what is kept of the rest, are what is kept of all
pub record Retelling (xs : List Record) (l : Lines) (t : Told) (i : ℕ) : Type 0 where
  pub few : t.kept.count ≤ i
  pub long : length t.kept.records ≡ most L
  pub kept : take t.kept.count t.kept.records ++ telling t.lines (drop i xs) ≡ telling l xs

module _ (h : Tied) (xs : List Record) (is : xs ≡ lines_from h 0) (l : Lines) (t : Told) (i : ℕ) (p : Retelling xs l t i) where
  pub retelling_goes : (d : Record) → i < length xs → Retelling xs l (told_with t (get_or xs i d)) (i + 1)
  unfolding telling
  retelling_goes d b = by (repeats_of t.lines (get_or xs i d).event) (rw (add-one i) (rw (drop-cons xs i d) at p.kept))
    where
      r : Record
      r = get_or xs i d

      by : (y : Bool) → take t.kept.count t.kept.records ++ pick y (telling t.lines (drop (i + 1) xs)) (r ∷ telling (lines_next t.lines r.event) (drop (i + 1) xs)) ≡ telling l xs →
          Retelling xs l (pick y t (record { kept = record { records = set t.kept.records t.kept.count r; count = t.kept.count + 1 }; lines = lines_next t.lines r.event })) (i + 1)
      by true e = record { few = omega (arith, p.few); long = p.long; kept = e }
      by false e =
          let all : length xs ≡ h.lines.count = rw is (length-take-le h.lines.count h.lines.records h.lines_in) in
          let few : h.lines.count ≤ most L = h.lines_few in
          let here : t.kept.count < length t.kept.records = omega (arith, p.few, p.long) in
          record { few = omega (arith, p.few); long = simp length-set p.long; kept = rw (add-one t.kept.count, take-suc-set t.kept.records t.kept.count r here, append_assoc) e }

  pub retelling_ends : length xs ≤ i → (r : Tied) → r.buses ≡ h.buses → r.board ≡ h.board → r.lines ≡ t.kept → OnlyTelling h l r
  unfolding telling
  retelling_ends b r e f g =
      record { buses = e; board = f; lines = ap (λ (x : Records 2). take x.count x.records) g ∙ (rw (drop_of_length-le xs {i = i} b, append-nil, is) at p.kept) }
