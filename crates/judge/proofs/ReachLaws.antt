-- Stamps that rise: whether a record that is taken has a stamp is told at the first that is not below it.
use Prim.Native.Nat.{ℕ, ◌≤◌, ◌<◌}
use native.Mathlib.Omega.{arith}
use mathlib.Core.Path.{◌≡◌, refl, sym, ap, subst, ◌∙◌}
use mathlib.Core.Bool.{Bool, true, false}
use mathlib.Core.List.{List, [], ◌∷◌}
use lib.Dec.{eqb, leb}
use lib.ListN.{length}
use borrow.Author.Tests.{eqb-false, ne_eqb, leb-true, leb-false}
use Rattle.std.specs.Prelude.{Some, None}
use Rattle.law.specs.Choice.{split, both}
use Rattle.law.specs.Words.{pick, filter, keep, All, Rising}
use Rattle.law.specs.Lists.{all_map, all_filter}
use Rattle.record.specs.declared.Record.{Record}
use Rattle.field.specs.Reads.{Stands}
use Rattle.field.proofs.Reading.{Got}
use Rattle.line.specs.Records.{spelled, RecordOk}
use Rattle.capture.specs.Taken.{taken, taken_of, stamped}
use Rattle.capture.specs.OneByOne.{records}
use Rattle.capture.proofs.OneByOne.{some_record, took, not_none, at_end}
use Rattle.judge.specs.declared.Reach.{Reach}
use Rattle.judge.specs.Checking.{reached_by, Ahead, Reaches}

-- ---- stamps
none_has : (t : ℕ) (l : List Record) → All (λ (r : Record). t < r.stamp) l → stamped l t ≡ false
unfolding stamped All
none_has t [] h = refl
none_has t (r ∷ l) h = let lt = h.0 in rw (ne_eqb r.stamp t (λ e. omega arith)) (none_has t l h.1)

taken_in : (r : Record) (rs : List Record) → taken r.event ≡ true → taken_of (r ∷ rs) ≡ r ∷ taken_of rs
unfolding filter keep
taken_in r rs e = rw e

taken_out : (r : Record) (rs : List Record) → taken r.event ≡ false → taken_of (r ∷ rs) ≡ taken_of rs
unfolding filter keep
taken_out r rs e = rw e

-- a record with another stamp
past : (u : ℕ) (r : Record) (l : List Record) → (r.stamp ≡ u → ⊥) → stamped (r ∷ l) u ≡ stamped l u
unfolding stamped
past u r l n = rw (ne_eqb r.stamp u n)

module _ (r : Record) (l : List Record) (up : All (λ (x : Record). r.stamp ≤ x.stamp) l) where
  none_below : (u : ℕ) → u < r.stamp → stamped (r ∷ l) u ≡ false
  none_below u h = past u r l (λ e. omega arith) ∙ none_has u l (all_map _ _ (λ x q. omega arith) l up)

  head_only : (t : ℕ) → t ≤ r.stamp → eqb r.stamp t ≡ stamped (r ∷ l) t
  unfolding stamped
  head_only t h =
      split (eqb r.stamp t) (λ e. rw e)
      (λ e. let n = eqb-false r.stamp t e in e ∙ sym (none_below t (apart t r.stamp h n)))
    where
      apart : (a b : ℕ) → a ≤ b → (b ≡ a → ⊥) → a < b
      apart a b le ne = omega arith

passed_over : (t u : ℕ) (r : Record) (rs : List Record) → reached_by r t ≡ false → t ≤ u → stamped (taken_of (r ∷ rs)) u ≡ stamped (taken_of rs) u
passed_over t u r rs h k =
    split (taken r.event)
    (λ e.
    let lt = leb-false t r.stamp (sym (ap (λ (q : Bool). pick q (leb t r.stamp) false) e) ∙ h) in
    ap (λ (l : List Record). stamped l u) (taken_in r rs e) ∙ past u r (taken_of rs) (λ z. omega arith))
    (λ e. ap (λ (l : List Record). stamped l u) (taken_out r rs e))

-- ---- the loop
pub record Still (trace : List ℕ) (from t at : ℕ) : Type 0 where
  pub still : (ts : List Record) (s : ℕ) → s ≤ t → Ahead trace ts s from 0 → Ahead trace ts t at 0

later : {trace : List ℕ} {ts : List Record} {s t at free : ℕ} → s ≤ t → Ahead trace ts s at free → Ahead trace ts t at free
later h a = record { rest = a.rest; from = a.from; rising = a.rising; same = λ u k. a.same u (omega arith); none = a.none }

module _ {trace : List ℕ} {from t : ℕ} where
  pub reach_start : Still trace from t from
  reach_start = record { still = λ ts s h a. later h a }

  module _ {at : ℕ} (s : Still trace from t at) where
    pub reach_none : at < length trace → ((r : Record) → RecordOk r → Stands trace at (spelled r) → ⊥) → Reaches trace from 0 t (record { at = at; stamp = None })
    unfolding records
    reach_none h n = record { reaches = λ ts u le a. let z = s.still ts u le a in absurd (not_none z.rest z.from h n) }

    pub reach_end : length trace ≤ at → Reaches trace from 0 t (record { at = at; stamp = None })
    unfolding filter stamped
    reach_end h = record {
      reaches = λ ts u le a.
          let z = s.still ts u le a in
          (sym (z.same t (omega arith) ∙ ap (λ (l : List Record). stamped (taken_of l) t) (at_end some_record z.rest z.from h)), z);
    }

    module _ {r : Record} {p : ℕ} (g : Got spelled RecordOk trace at r p) where
      pub reach_found : reached_by r t ≡ true → Reaches trace from 0 t (record { at = at; stamp = Some r.stamp })
      unfolding Rising records
      reach_found h = record {
        reaches = λ ts u le a.
            let z = s.still ts u le a in
            let k = took some_record z.rest z.from g in
            let q = both (taken r.event) (leb t r.stamp) h in
            let up = all_filter _ (λ (x : Record). taken x.event) k.0 (subst (Rising (λ (x : Record). x.stamp)) k.2 z.rising).0 in
            let is : taken_of z.rest ≡ r ∷ taken_of k.0 = ap taken_of k.2 ∙ taken_in r k.0 q.0 in (
              head_only r (taken_of k.0) up t (leb-true t r.stamp q.1) ∙ sym (z.same t (omega arith) ∙ ap (λ (l : List Record). stamped l t) is),
              record {
                rest = z.rest;
                from = z.from;
                rising = z.rising;
                same = z.same;
                none = λ v lt. ap (λ (l : List Record). stamped l v) is ∙ none_below r (taken_of k.0) up v lt;
              },
            );
      }

      pub reach_next : reached_by r t ≡ false → Still trace from t p
      unfolding Rising records
      reach_next h = record {
        still = λ ts u le a.
            let z = s.still ts u le a in
            let k = took some_record z.rest z.from g in
            record {
              rest = k.0;
              from = k.1;
              rising = (subst (Rising (λ (x : Record). x.stamp)) k.2 z.rising).1;
              same = λ v lt. z.same v lt ∙ ap (λ (l : List Record). stamped (taken_of l) v) k.2 ∙ passed_over t v r k.0 h lt;
              none = λ v lt. absurd (omega arith);
            };
      }

-- ---- from where an earlier search stopped
module _ {trace : List ℕ} {t : ℕ} {r : Reach} where
  pub reach_further : {at free : ℕ} → Reaches trace at 0 t r → Reaches trace at free t r
  reach_further q = record {
    reaches = λ ts s le a.
        q.reaches ts s le (record { rest = a.rest; from = a.from; rising = a.rising; same = a.same; none = λ v lt. absurd (omega arith) });
  }
