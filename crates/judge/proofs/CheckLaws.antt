-- Where the check stands after each level line: the lines so far have no fault and stand at the front.
use Prim.Native.Nat.{ℕ, ◌+◌, ◌≤◌, ◌<◌}
use native.Mathlib.Omega.{arith}
use native.Mathlib.Nat.{zero-add}
use mathlib.Core.Path.{◌≡◌, refl, sym, ap, subst, ◌∙◌}
use mathlib.Core.Logic.{inl, inr}
use mathlib.Core.List.{List, [], ◌∷◌, ◌++◌, append-nil}
use lib.Dec.{ltb}
use lib.ListN.{length, drop, length-append}
use borrow.Author.Tests.{ltb-false}
use Rattle.std.specs.Prelude.{Ok, Err}
use Rattle.law.specs.Choice.{split}
use Rattle.record.specs.declared.Board.{Board}
use Rattle.record.specs.declared.Record.{Record}
use Rattle.record.specs.declared.LevelsAnswer.{LevelsAnswer}
use Rattle.record.specs.declared.LevelsAnswer.TheVariants.{BadLevel}
use Rattle.field.specs.Reads.{Stands}
use Rattle.field.proofs.Reading.{Got}
use Rattle.line.specs.Boards.{spelled_board}
use Rattle.text.specs.Texts.{Readable}
use Rattle.text.proofs.Theorems.{first_place_lem}
use Rattle.level.specs.declared.Level.{Level}
use Rattle.level.specs.Spelled.{spelled_level, LevelOk}
use Rattle.level.proofs.Theorems.{level_length}
use Rattle.capture.specs.Taken.{taken_of, stamped}
use Rattle.capture.specs.Captures.{spelled_levels, Before, none, line, last_of, Fault, first_fault, later_fault, fault_of, Faultless, Begins, no_level, faulty}
use Rattle.capture.specs.OneByOne.{records}
use Rattle.capture.proofs.OneMore.{last_snoc, length_snoc, begins_none, begins_snoc, begins_whole}
use Rattle.capture.proofs.Decoding.{not_back}
use Rattle.judge.specs.declared.Reach.{Reach}
use Rattle.judge.specs.Checking.{hits, free_of, Ahead, Reaches, LevelsChecked, levels_usable, levels_bad, usable, bad, ChecksLevels}

-- ---- the lines so far, from the first one, a
pub record Upto (ts : List Record) (text : List ℕ) (a last : Level) (at number : ℕ) : Type 0 where
  pub more : List Level
  pub begins : Begins ts text (a ∷ more)
  pub last_is : last_of none (a ∷ more) ≡ line last
  pub place : at ≡ length (spelled_levels (a ∷ more))
  pub count : number ≡ length (a ∷ more) + 1

-- and the records taken whose stamps can still come
pub record Sofar (levels trace : List ℕ) (first : ℕ) (a : Level) (at : ℕ) (last : Level) (number : ℕ) (place : Reach) : Type 0 where
  pub small : number ≤ at
  pub so : (b : Board) (rs : List Record) → Readable trace b rs → first ≡ length (spelled_board b) →
      Upto (taken_of rs) levels a last at number × Ahead trace (taken_of rs) last.stamp place.at (free_of place.stamp)

-- before the first line, all of them
begun : {trace : List ℕ} {first : ℕ} {b : Board} {rs : List Record} → Readable trace b rs → first ≡ length (spelled_board b) → Ahead trace (taken_of rs) 0 first 0
unfolding records
begun {trace} {rs = rs} q e = record {
  rest = rs;
  from = record { fits = q.fits; is = ap (λ (k : ℕ). drop k trace) e ∙ first_place_lem q };
  rising = q.acceptable.never_back;
  same = λ u h. refl;
  none = λ u h. absurd (omega arith);
}

-- ---- the first line
module _ {levels trace : List ℕ} {first : ℕ} where
  pub first_none : ((l : Level) → LevelOk l → Stands levels 0 (spelled_level l) → ⊥) → ChecksLevels levels trace first (levels_bad BadLevel 1)
  unfolding spelled_levels
  first_none n = record { checks = λ b rs q e. bad BadLevel 1 (no_level [] (begins_none (taken_of rs) levels) (inl refl) n) }

  module _ {l : Level} {p : ℕ} {r : Reach} {fault : Fault} (g : Got spelled_level LevelOk levels 0 l p) (q : Reaches trace first 0 l.stamp r) (f : fault ≡ first_fault l (hits r.stamp l.stamp)) where
    first_fault_is : {b : Board} {rs : List Record} → Readable trace b rs → first ≡ length (spelled_board b) → fault_of (taken_of rs) none l ≡ fault
    unfolding fault_of
    first_fault_is {rs = rs} z e = sym (f ∙ ap (first_fault l) (q.reaches (taken_of rs) 0 (omega arith) (begun z e)).0)

    pub first_bad_lem : {a : LevelsAnswer} → fault ≡ Err a → ChecksLevels levels trace first (levels_bad a 1)
    unfolding spelled_levels last_of
    first_bad_lem {a} n = record { checks = λ b rs z e. bad a 1 (faulty [] l a (begins_none (taken_of rs) levels) g.ok g.stands (first_fault_is z e ∙ n)) }

    pub first_good : fault ≡ Ok tt → Sofar levels trace first l p l 2 r
    unfolding spelled_levels last_of Faultless
    first_good n = record {
      small = omega (arith, g.next, level_length l);
      so = λ b rs z e. (
        record {
          more = [];
          begins = record {
            faultless = (g.ok, first_fault_is z e ∙ n, tt);
            stands = subst (λ (x : List ℕ). Stands levels 0 x) (sym (append-nil (spelled_level l))) g.stands;
          };
          last_is = refl;
          place = g.next ∙ zero-add (length (spelled_level l)) ∙ ap length (sym (append-nil (spelled_level l)));
          count = refl;
        },
        (q.reaches (taken_of rs) 0 (omega arith) (begun z e)).1,
      );
    }

  -- ---- a later line
  module _ {a last : Level} {at number : ℕ} {place : Reach} (s : Sofar levels trace first a at last number place) where
    pub later_none : at < length levels → ((l : Level) → LevelOk l → Stands levels at (spelled_level l) → ⊥) → ChecksLevels levels trace first (levels_bad BadLevel number)
    later_none h n = record {
      checks = λ b rs z e.
          let u = (s.so b rs z e).0 in
          subst (λ (k : ℕ). LevelsChecked (taken_of rs) levels (levels_bad BadLevel k)) (sym u.count)
          (bad BadLevel _ (no_level (a ∷ u.more) u.begins (inr (omega (arith, u.place))) (λ l o t. n l o (subst (λ (k : ℕ). Stands levels k (spelled_level l)) (sym u.place) t))));
    }

    module _ {l : Level} {p : ℕ} {r : Reach} {fault : Fault} (g : Got spelled_level LevelOk levels at l p) (q : Reaches trace place.at (free_of place.stamp) l.stamp r) (f : fault ≡ later_fault last l (hits r.stamp l.stamp)) where
      module _ {b : Board} {rs : List Record} (z : Readable trace b rs) (e : first ≡ length (spelled_board b)) where
        upto : Upto (taken_of rs) levels a last at number
        upto = (s.so b rs z e).0

        there : Stands levels (length (spelled_levels (a ∷ upto.more))) (spelled_level l)
        there = subst (λ (k : ℕ). Stands levels k (spelled_level l)) upto.place g.stands

        -- where the stamp does not fall; where it does, nothing else is asked
        asked : last.stamp ≤ l.stamp → (hits r.stamp l.stamp ≡ stamped (taken_of rs) l.stamp) × Ahead trace (taken_of rs) l.stamp r.at (free_of r.stamp)
        asked le = q.reaches (taken_of rs) last.stamp le (s.so b rs z e).1

        behind_last : fault_of (taken_of rs) (line last) l ≡ fault
        unfolding fault_of
        behind_last =
            split (ltb l.stamp last.stamp) (λ t. rw t) (λ t. ap (later_fault last l) (sym (asked (ltb-false l.stamp last.stamp t)).0)) ∙ sym f

        fault_is : fault_of (taken_of rs) (last_of none (a ∷ upto.more)) l ≡ fault
        fault_is = ap (λ (x : Before). fault_of (taken_of rs) x l) upto.last_is ∙ behind_last

      pub later_bad : {n : LevelsAnswer} → fault ≡ Err n → ChecksLevels levels trace first (levels_bad n number)
      later_bad {n} h = record {
        checks = λ b rs z e.
            let u = upto z e in
            subst (λ (k : ℕ). LevelsChecked (taken_of rs) levels (levels_bad n k)) (sym u.count)
            (bad n _ (faulty (a ∷ u.more) l n u.begins g.ok (there z e) (fault_is z e ∙ h)));
      }

      pub later_good : fault ≡ Ok tt → Sofar levels trace first a p l (number + 1) r
      later_good n = record {
        small = omega (arith, s.small, g.next, level_length l);
        so = λ b rs z e.
            let u = upto z e in
            let ls = a ∷ u.more in (
              record {
                more = u.more ++ (l ∷ []);
                begins = begins_snoc ls u.begins l g.ok (there z e) (fault_is z e ∙ n);
                last_is = last_snoc none ls l;
                place = omega (arith, g.next, u.place, length_snoc ls l);
                count = omega (arith, u.count, length-append u.more (l ∷ []));
              },
              (asked z e (not_back (taken_of rs) last l (behind_last z e ∙ n))).1,
            );
      }

    -- no line is left
    pub check_end : {p : ℕ} → Got spelled_level LevelOk levels 0 a p → length levels ≤ at → ChecksLevels levels trace first (levels_usable a p)
    check_end {p} g h = record {
      checks = λ b rs z e.
          let u = (s.so b rs z e).0 in
          subst (λ (k : ℕ). LevelsChecked (taken_of rs) levels (levels_usable a k)) (sym (g.next ∙ zero-add (length (spelled_level a))))
          (usable a u.more (begins_whole (a ∷ u.more) u.begins (omega arith) (omega (arith, u.place))));
    }
