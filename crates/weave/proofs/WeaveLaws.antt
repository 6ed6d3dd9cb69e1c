-- The first of the least heads is the next record of all.
use Prim.Native.Nat.{ℕ, zero, suc, ◌≤◌, ◌<◌}
use native.Mathlib.Omega.{arith}
use mathlib.Core.Path.{◌≡◌, refl, sym, ap, ap₂, subst, ◌∙◌}
use denote.Ref.{Bor}
use mathlib.Core.List.{List, [], ◌∷◌, ◌++◌, append_assoc}
use Rattle.std.specs.Prelude.{Some, None}
use lib.ListN.{length, get_or, set}
use Rattle.law.specs.Words.{All, Rising}
use Rattle.law.specs.Lists.{all_map, all_append}
use Rattle.law.specs.Order.{InOrder}
use Rattle.law.specs.Ordering.{order_next, order_all}
use Rattle.record.specs.declared.Record.{Record}
use Rattle.capture.specs.Merge.{number_of}
use Rattle.weave.specs.declared.Weave.{Weave}
use Rattle.weave.specs.Feeding.{Place, Feed, over, ahead, PlaceLeft, Gives, done, next, Feeds}
use Rattle.weave.specs.Weaving.{above, head_number, feeds_of, numbers_of, number_at, Least, joined, Each, OwnParts, Left, WovenBy, nothing, following, Weaves}

-- ---- the numbers beside the feeds
as_many : (fs : List Feed) → length (numbers_of fs) ≡ length fs
unfolding numbers_of
as_many [] = refl
as_many (f ∷ fs) = ap suc (as_many fs)

own_number : (fs : List Feed) (i : ℕ) → i < length fs → number_at (numbers_of fs) i ≡ head_number (get_or fs i over)
unfolding numbers_of
own_number [] i h = absurd (omega arith)
own_number (f ∷ fs) zero h = refl
own_number (f ∷ fs) (suc i) h = own_number fs i (omega arith)

put_number : (fs : List Feed) (i : ℕ) (f : Feed) → set (numbers_of fs) i (head_number f) ≡ numbers_of (set fs i f)
unfolding numbers_of
put_number [] i f = refl
put_number (g ∷ fs) zero f = refl
put_number (g ∷ fs) (suc i) f = ap (λ (ns : List ℕ). head_number g ∷ ns) (put_number fs i f)

-- ---- what holds of a feed's head holds of all that it gives, where it holds upwards
module _ (P : ℕ → Type 0) (up : (n k : ℕ) → n ≤ k → P n → P k) where
  one_feed : {levels trace : List ℕ} {f : Feed} {xs : List Record} → Gives levels trace f xs → Rising number_of xs → P (head_number f) → All (λ (r : Record). P (number_of r)) xs
  unfolding All Rising
  one_feed done r h = tt
  one_feed (next x p xs l) r h = (h, all_map _ _ (λ y k. up (number_of x) (number_of y) k h) xs r.0)

  all_feeds : (levels trace : List ℕ) (fs : List Feed) (xss : List (List Record)) → Each levels trace fs xss → ((j : ℕ) → j < length fs → P (number_at (numbers_of fs) j)) → All (λ (r : Record). P (number_of r)) (joined xss)
  unfolding Each joined All numbers_of
  all_feeds levels trace [] [] e h = tt
  all_feeds levels trace [] (xs ∷ xss) e h = absurd e
  all_feeds levels trace (f ∷ fs) [] e h = absurd e
  all_feeds levels trace (f ∷ fs) (xs ∷ xss) e h = all_append _ xs (joined xss) (one_feed e.0 e.1 (h 0 (omega arith))) (all_feeds levels trace fs xss e.2 (λ j k. h (suc j) (omega arith)))

-- ---- one feed among the others: what the feeds before it give, what it gives itself, and what those behind it give
record Among (levels trace : List ℕ) (fs : List Feed) (xss : List (List Record)) (i : ℕ) : Type 1 where
  front : List Record
  own : List Record
  behind : List Record
  is : joined xss ≡ front ++ (own ++ behind)
  gives : Gives levels trace (get_or fs i over) own
  rises : Rising number_of own
  before : (P : ℕ → Type 0) → ((n k : ℕ) → n ≤ k → P n → P k) → ((j : ℕ) → j < i → P (number_at (numbers_of fs) j)) → All (λ (r : Record). P (number_of r)) front
  after : (P : ℕ → Type 0) → ((n k : ℕ) → n ≤ k → P n → P k) → ((j : ℕ) → j < length fs → P (number_at (numbers_of fs) j)) → All (λ (r : Record). P (number_of r)) behind
  put : (f : Feed) (ys : List Record) → Gives levels trace f ys → Rising number_of ys → (yss : List (List Record)) × Each levels trace (set fs i f) yss × (joined yss ≡ front ++ (ys ++ behind))

among : {levels trace : List ℕ} (fs : List Feed) (xss : List (List Record)) (i : ℕ) → Each levels trace fs xss → i < length fs → Among levels trace fs xss i
unfolding Each joined All numbers_of
among [] xss i e h = absurd (omega arith)
among (f ∷ fs) [] i e h = absurd e
among {levels} {trace} (f ∷ fs) (xs ∷ xss) zero e h = record {
  front = [];
  own = xs;
  behind = joined xss;
  is = refl;
  gives = e.0;
  rises = e.1;
  before = λ P up k. tt;
  after = λ P up k. all_feeds P up levels trace fs xss e.2 (λ j q. k (suc j) (omega arith));
  put = λ f ys g r. (ys ∷ xss, (g, r, e.2), refl);
}
among {levels} {trace} (f ∷ fs) (xs ∷ xss) (suc i) e h =
    let z = among fs xss i e.2 (omega arith) in
    record {
      front = xs ++ z.front;
      own = z.own;
      behind = z.behind;
      is = ap (λ (l : List Record). xs ++ l) z.is ∙ sym (append_assoc xs z.front (z.own ++ z.behind));
      gives = z.gives;
      rises = z.rises;
      before = λ P up k. all_append _ xs z.front (one_feed P up e.0 e.1 (k 0 (omega arith))) (z.before P up (λ j q. k (suc j) (omega arith)));
      after = λ P up k. z.after P up (λ j q. k (suc j) (omega arith));
      put = λ f ys g r.
          let w = z.put f ys g r in
          (xs ∷ w.0, (e.0, e.1, w.1), ap (λ (l : List Record). xs ++ l) w.2 ∙ sym (append_assoc xs z.front (ys ++ z.behind)));
    }

-- ---- the next record
no_head : (m : List Record) → All (λ (r : Record). above ≤ number_of r) m → All (λ (r : Record). number_of r < above) m → m ≡ []
unfolding All
no_head [] p q = refl
no_head (r ∷ m) p q = let a : above ≤ number_of r = p.0 in let b : number_of r < above = q.0 in absurd (omega arith)

rising_head : (x : Record) (xs : List Record) → Rising number_of (x ∷ xs) → All (λ (v : Record). number_of x ≤ number_of v) xs
unfolding Rising
rising_head x xs h = h.0

rising_tail : (x : Record) (xs : List Record) → Rising number_of (x ∷ xs) → Rising number_of xs
unfolding Rising
rising_tail x xs h = h.1

below_tail : (x : Record) (xs : List Record) → All (λ (v : Record). number_of v < above) (x ∷ xs) → All (λ (v : Record). number_of v < above) xs
unfolding All
below_tail x xs h = h.1

module _ (w : Weave) {i : ℕ} (k : Least w.numbers i) where
  abbrev levels : List ℕ
  levels = w.levels.now

  abbrev trace : List ℕ
  trace = w.trace.now

  -- the same of the numbers of the heads, which they are
  least_head : (m : List Record) → Left w m → Least (numbers_of (feeds_of w)) i
  least_head m l = subst (λ (ns : List ℕ). Least ns i) l.numbers k

  within : (m : List Record) → Left w m → i < length (feeds_of w)
  within m l = omega (arith, (least_head m l).small, as_many (feeds_of w))

  least_of : (m : List Record) (l : Left w m) (n : ℕ) → head_number (get_or (feeds_of w) i over) ≡ n → (j : ℕ) → j < length (feeds_of w) → n ≤ number_at (numbers_of (feeds_of w)) j
  least_of m l n e j q = omega (arith, (least_head m l).least j (omega (arith, as_many (feeds_of w))), own_number (feeds_of w) i (within m l), e)

  -- no feed has a head: nothing is left
  high : get_or (feeds_of w) i over ≡ over → (m : List Record) → Left w m → All (λ (r : Record). above ≤ number_of r) m
  high e m l =
      order_all number_of (λ (r : Record). above ≤ number_of r) l.ordered
      (all_feeds (λ n. above ≤ n) (λ n j le q. omega arith) levels trace (feeds_of w) l.parts l.each (least_of m l above (ap head_number e)))

  pub woven_done : {v : Weave} → get_or (feeds_of w) i over ≡ over → (v.levels ≡ w.levels) × (v.trace ≡ w.trace) → Weaves w None v
  woven_done {v} e s = record { weaves = λ m l. subst (WovenBy v None) (sym (no_head m (high e m l) l.below)) nothing; same = s }

  module _ (v : Weave) {x : Record} {p : Place} {f : Feed} {n : ℕ} (e : get_or (feeds_of w) i over ≡ ahead x p) (g : Feeds levels trace p f) (is-head : n ≡ head_number f)
      (ns : v.numbers ≡ set w.numbers i n) (fs : feeds_of v ≡ set (feeds_of w) i f) (ls : v.levels ≡ w.levels) (ts : v.trace ≡ w.trace) (ps : OwnParts w → OwnParts v) where
    levels_stay : levels ≡ v.levels.now
    levels_stay = ap (λ (b : Bor (List ℕ)). b.now) (sym ls)

    trace_stays : trace ≡ v.trace.now
    trace_stays = ap (λ (b : Bor (List ℕ)). b.now) (sym ts)

    rest_numbers : (m : List Record) → Left w m → v.numbers ≡ numbers_of (feeds_of v)
    rest_numbers m l = ns ∙ ap₂ (λ (l : List ℕ) (c : ℕ). set l i c) l.numbers is-head ∙ put_number (feeds_of w) i f ∙ ap numbers_of (sym fs)

    put_next : (m : List Record) (l : Left w m) (z : Among levels trace (feeds_of w) l.parts i) (c : Feed) (own : List Record) → c ≡ ahead x p → Gives levels trace c own → Rising number_of own
        → joined l.parts ≡ z.front ++ (own ++ z.behind) → WovenBy v (Some x) m
    put_next m l z c own h done r is = absurd (cc)
    put_next m l z c own h (next y q xs left) r is =
        let same : y ≡ x = cc in
        let place : q ≡ p = cc in
        let r' : Rising number_of (x ∷ xs) = subst (λ (v : Record). Rising number_of (v ∷ xs)) same r in
        let is' : joined l.parts ≡ z.front ++ (x ∷ (xs ++ z.behind)) = is ∙ ap (λ (v : Record). z.front ++ (v ∷ (xs ++ z.behind))) same in
        let head : number_at (numbers_of (feeds_of w)) i ≡ number_of x = own_number (feeds_of w) i (within m l) ∙ ap head_number e in
        let o =
        order_next number_of x z.front (xs ++ z.behind)
        (z.before (λ n. number_of x < n) (λ n j le lt. omega arith) (λ j lt. subst (λ (n : ℕ). n < number_at (numbers_of (feeds_of w)) j) head ((least_head m l).first j lt)))
        (all_append _ xs z.behind (rising_head x xs r') (z.after (λ n. number_of x ≤ n) (λ n j le q. omega arith) (least_of m l (number_of x) (ap head_number e))))
        (subst (λ (v : List Record). InOrder number_of v m) is' l.ordered) in
        let u = z.put f xs (g.feeds xs (subst (λ (v : Place). PlaceLeft levels trace v xs) place left)) (rising_tail x xs r') in
        subst (WovenBy v (Some x)) (sym o.1)
        (following x o.0 (record {
          parts = u.0;
          numbers = rest_numbers m l;
          own_parts = ps l.own_parts;
          each =
              subst (λ (t : List ℕ). Each v.levels.now t (feeds_of v) u.0) trace_stays
              (subst (λ (t : List ℕ). Each t trace (feeds_of v) u.0) levels_stay (subst (λ (l : List Feed). Each levels trace l u.0) (sym fs) u.1));
          ordered = subst (λ (v : List Record). InOrder number_of v o.0) (sym u.2) o.2;
          below = below_tail x o.0 (subst (All (λ (v : Record). number_of v < above)) o.1 l.below);
        }))

    pub woven_next : Weaves w (Some x) v
    woven_next = record {
      weaves = λ m l.
          let z = among (feeds_of w) l.parts i l.each (within m l) in
          put_next m l z (get_or (feeds_of w) i over) z.own e z.gives z.rises z.is;
      same = (ls, ts);
    }
