-- What is held of gathered records: one record more, once over the most that a channel may have.
use mathlib.Core.Path.{◌≡◌, refl, sym, ap, subst, subst₂, ◌∙◌}
use mathlib.Core.Bool.{Bool, true, false}
use mathlib.Core.List.{List, [], ◌∷◌, ◌++◌, append-nil, append_assoc}
use Prim.Native.Nat.{ℕ, ◌+◌, ◌≤◌, ◌<◌}
use native.Mathlib.Numerals.{add-one}
use native.Mathlib.Omega.{arith}
use lib.Dec.{ltb}
use lib.ListN.{length, set, length-set, length-append}
use lib.Seq.{take_all, take-suc-set, take-append-le}
use borrow.Author.Tests.{ltb-true, ltb-false}
use Rattle.std.proofs.Common.{rules}
use Rattle.law.specs.Choice.{split}
use Rattle.law.specs.Words.{pick, keep, filter}
use Rattle.law.specs.Lists.{filter_append}
use Rattle.meaning.specs.Meaning.{Channel, F, E, L, same, most, of}
use Rattle.meaning.specs.Channels.{most_in_all}
use Rattle.record.specs.declared.Record.{Record}
use Rattle.record.specs.declared.Board.{Board}
use Rattle.orders.specs.declared.Held.{Held}
use Rattle.orders.specs.Verdicts.{count_of, array_of}
use Rattle.machine.specs.Machine.{on_machine, channel_of}
use Rattle.enough.specs.Enough.{HoldsMost, Holds}
use Rattle.stamps.specs.declared.Gathered.{Gathered}
use Rattle.line.specs.Records.{spelled}
use Rattle.stamps.specs.Gathering.{kept_array, kept_count, array_with, count_with, held_by, held_with, gathered_with, nothing_gathered, gathered_all}

-- the arrays have the lengths that they are declared with
pub record Sized (g : Gathered) : Type 0 where
  pub held : (c : Channel) → length (array_of g.held c) ≡ most c
  pub records : length g.records.records ≡ most_in_all

-- the records p are gathered
pub record Keeps (b : Board) (g : Gathered) (p : List Record) : Type 0 where
  pub sized : Sized g
  pub held : Holds b g.held p
  pub written : HoldsMost most_in_all g.records.count g.records.records p

-- ---- one channel
module _ (most count : ℕ) (array xs : List Record) (r : Record) (h : HoldsMost most count array xs) (long : length array ≡ most) where
  fits_in : count < most → HoldsMost most (count + 1) (set array count r) (xs ++ (r ∷ []))
  fits_in l =
      let c = h.counts in
      let n : length xs ≡ count = omega arith in
      let here : count < length array = omega arith in
      let k : length (xs ++ (r ∷ [])) ≡ count + 1 = length-append xs (r ∷ []) ∙ omega arith in
      record {
        counts = omega (arith, k);
        holds =
            rw (add-one, take-suc-set array count r here)
            (ap (λ (l : List Record). l ++ (r ∷ [])) (h.holds ∙ take_all most xs (omega arith)) ∙ sym (take_all most (xs ++ (r ∷ [])) (omega (arith, k))));
      }

  overflows : most ≤ count → HoldsMost most (most + 1) array (xs ++ (r ∷ []))
  overflows l =
      let c = h.counts in
      let n : most ≤ length xs = omega arith in
      let k : length (xs ++ (r ∷ [])) ≡ length xs + 1 = length-append xs (r ∷ []) in
      record {
        counts = omega (arith, k);
        holds = take_all (most + 1) array (omega arith) ∙ sym (take_all count array (omega arith)) ∙ h.holds ∙ sym (take-append-le most xs (r ∷ []) n);
      }

  pub keep_most : HoldsMost most (kept_count most count) (kept_array most array count r) (xs ++ (r ∷ []))
  keep_most =
      split (ltb count most)
      (λ t. rw t (fits_in (ltb-true count most t)))
      (λ t. rw t (overflows (ltb-false count most t)))

  pub keep_long : length (kept_array most array count r) ≡ most
  keep_long = split (ltb count most) (λ t. rw t (length-set array count r ∙ long)) (λ t. rw t long)

-- ---- each channel of the records
count_by : (c d : Channel) (h : Held) (r : Record) → count_with c d h ≡ count_of (held_by d h r) c
count_by c d h r = search rules

array_by : (c d : Channel) (h : Held) (r : Record) → array_with c d h r ≡ array_of (held_by d h r) c
array_by c d h r = search rules

module _ (b : Board) (p : List Record) (r : Record) (g : Gathered) (k : Keeps b g p) where
  -- what is held of the channel c, whether the record is of this channel or not
  one_held : (c : Channel) (t : Bool) →
      HoldsMost (most c) (pick t (kept_count (most c) (count_of g.held c)) (count_of g.held c)) (pick t (kept_array (most c) (array_of g.held c) (count_of g.held c) r) (array_of g.held c)) (of (on_machine b) c p ++ keep t r [])
  unfolding keep
  one_held c true = keep_most (most c) _ _ _ r (k.held c) (k.sized.held c)
  one_held c false = subst (HoldsMost (most c) (count_of g.held c) (array_of g.held c)) (sym (append-nil _)) (k.held c)

  held_by_lem : Holds b (held_with g.held r) (p ++ (r ∷ []))
  unfolding filter
  held_by_lem c =
      subst (HoldsMost (most c) _ _) (sym (filter_append _ p (r ∷ [])))
      (subst₂ (λ (n : ℕ) (xs : List Record). HoldsMost (most c) n xs (of (on_machine b) c p ++ keep (same c (channel_of r.event)) r [])) (count_by c (channel_of r.event) g.held r) (array_by c (channel_of r.event) g.held r)
      (one_held c (same c (channel_of r.event))))

  one_long : (c : Channel) (t : Bool) → length (pick t (kept_array (most c) (array_of g.held c) (count_of g.held c) r) (array_of g.held c)) ≡ most c
  one_long c true = keep_long (most c) (count_of g.held c) (array_of g.held c) _ r (k.held c) (k.sized.held c)
  one_long c false = k.sized.held c

  pub keeps_one : (next : ℕ) → Keeps b (gathered_with g r next) (p ++ (r ∷ []))
  keeps_one next = record {
    sized = record {
      held = λ c. ap length (sym (array_by c (channel_of r.event) g.held r)) ∙ one_long c (same c (channel_of r.event));
      records = keep_long most_in_all g.records.count g.records.records _ r k.written k.sized.records;
    };
    held = held_by_lem;
    written = keep_most most_in_all _ _ _ r k.written k.sized.records;
  }

-- ---- nothing is gathered
module _ (place : ℕ) where
  none_held : (b : Board) → Holds b (nothing_gathered place).held []
  unfolding filter
  none_held b F = record { counts = refl; holds = refl }
  none_held b E = record { counts = refl; holds = refl }
  none_held b L = record { counts = refl; holds = refl }

  none_long : (c : Channel) → length (array_of (nothing_gathered place).held c) ≡ most c
  none_long c = search rules

  pub keeps_none : (b : Board) → Keeps b (nothing_gathered place) []
  keeps_none b = record {
    sized = record { held = none_long; records = refl };
    held = none_held b;
    written = record { counts = refl; holds = refl };
  }

-- ---- records more
pub keeps_all : (b : Board) (q p : List Record) (g : Gathered) → Keeps b g q → Keeps b (gathered_all g p) (q ++ p)
unfolding gathered_all
keeps_all b q [] g k = subst (Keeps b g) (sym (append-nil q)) k
keeps_all b q (r ∷ p) g k =
    subst (Keeps b (gathered_all g (r ∷ p))) (append_assoc q (r ∷ []) p)
    (keeps_all b (q ++ (r ∷ [])) p (gathered_with g r (g.next + length (spelled r))) (keeps_one b q r g k (g.next + length (spelled r))))
