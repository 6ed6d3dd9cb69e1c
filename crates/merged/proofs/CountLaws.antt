-- Where the two counts stand: what is still to count from here gives the whole. And that the lines of both texts together are those of the merged trace, in whatever order.
use Prim.Native.Nat.{ℕ, ◌+◌, ◌-◌, ◌≤◌, ◌<◌}
use native.Mathlib.Omega.{arith}
use mathlib.Core.Path.{◌≡◌, refl, ap}
use mathlib.Core.Bool.{true, false}
use mathlib.Core.List.{List, [], ◌∷◌, ◌++◌}
use lib.ListN.{length, length-append}
use Rattle.law.specs.Words.{filter, keep}
use Rattle.law.specs.Ordering.{total, total_append}
use Rattle.record.specs.declared.Event.{Event}
use Rattle.record.specs.declared.Record.{Record}
use Rattle.field.specs.Reads.{Stands}
use Rattle.field.proofs.Reading.{Got}
use Rattle.line.specs.Records.{spelled, RecordOk}
use Rattle.text.specs.Texts.{spelled_all}
use Rattle.level.specs.declared.Level.{Level}
use Rattle.level.specs.Spelled.{spelled_level, LevelOk}
use Rattle.decode.specs.declared.Out.{Out}
use Rattle.decode.specs.declared.Out.TheVariants.{Nothing, One, Two}
use Rattle.decode.specs.declared.bits.Bits.{Bits}
use Rattle.decode.specs.declared.Turn.{Turn}
use Rattle.decode.specs.Bits.{events_of}
use Rattle.decode.specs.Decoded.{turn_of, record_at, records_at, decoded_from, flash_start, wires_start}
use Rattle.capture.specs.Taken.{taken, taken_of}
use Rattle.capture.specs.Merge.{Merged}
use Rattle.capture.specs.OneByOne.{From, records, levels}
use Rattle.capture.proofs.Parts.{merged_total}
use Rattle.capture.proofs.OneByOne.{some_record, some_level, took, not_none, at_end}
use Rattle.merged.specs.Writing.{CountsLevels, CountsTaken}

-- ---- lines of several records
line_length : Record → ℕ
line_length r = length (spelled r)

all_total : (m : List Record) → length (spelled_all m) ≡ total line_length m
unfolding spelled_all total line_length
all_total [] = refl
all_total (r ∷ m) = omega (arith, length-append (spelled r) (spelled_all m), all_total m)

all_lengths : (l k : List Record) → length (spelled_all (l ++ k)) ≡ length (spelled_all l) + length (spelled_all k)
all_lengths l k = omega (arith, all_total (l ++ k), total_append line_length l k, all_total l, all_total k)

-- ---- what is given at a stamp
module _ (t : ℕ) where
  pub nothing_given : {o : Out} → o ≡ Nothing → 0 ≡ length (spelled_all (records_at t (events_of o)))
  unfolding events_of spelled_all
  nothing_given e = rw e

  pub one_given : {o : Out} {e : Event} {n : ℕ} → o ≡ One e → n ≡ length (spelled (record_at t e)) → n ≡ length (spelled_all (records_at t (events_of o)))
  unfolding events_of spelled_all
  one_given {e = e} q h = rw q (omega (arith, h, length-append (spelled (record_at t e)) []))

  pub two_given : {o : Out} {d e : Event} {n k : ℕ} → o ≡ Two d e → n ≡ length (spelled (record_at t d)) → k ≡ length (spelled (record_at t e)) → n + k ≡ length (spelled_all (records_at t (events_of o)))
  unfolding events_of spelled_all
  two_given {d = d} {e = e} q h j =
      rw q (omega (arith, h, j, length-append (spelled (record_at t d)) (spelled (record_at t e) ++ []), length-append (spelled (record_at t e)) []))

-- ---- the capture
abbrev given : Bits → Level → List Level → ℕ
given s a ls = length (spelled_all (decoded_from s a ls))

given_next : (s : Bits) (a b : Level) (ls : List Level) {t : Turn Bits} {n : ℕ} → t ≡ turn_of s a b → n ≡ length (spelled_all (records_at b.stamp (events_of t.out))) →
    given s a (b ∷ ls) ≡ n + given t.bits b ls
unfolding decoded_from
given_next s a b ls e h = rw (h, e) (all_lengths (records_at b.stamp (events_of (turn_of s a b).out)) (decoded_from (turn_of s a b).bits b ls))

pub record CountingLevels (text : List ℕ) (a : Level) (from at : ℕ) (last : Level) (flash wires : Bits) (sum : ℕ) : Type 0 where
  pub counting : (ls : List Level) → From levels text from ls → (ls' : List Level) × From levels text at ls' × (given flash_start a ls + given wires_start a ls ≡ sum + (given flash last ls' + given wires last ls'))

pub levels_start : {text : List ℕ} {a : Level} {from : ℕ} {flash wires : Bits} → flash ≡ flash_start → wires ≡ wires_start → CountingLevels text a from from a flash wires 0
levels_start {a = a} e h = record { counting = λ ls f. (ls, f, omega (arith, ap (λ (s : Bits). given s a ls) e, ap (λ (s : Bits). given s a ls) h)) }

module _ {text : List ℕ} {a : Level} {from at : ℕ} {last : Level} {flash wires : Bits} {sum : ℕ} (c : CountingLevels text a from at last flash wires sum) where
  pub levels_none : at < length text → ((l : Level) → LevelOk l → Stands text at (spelled_level l) → ⊥) → CountsLevels text a from sum
  unfolding levels
  levels_none h n = record { counts = λ ls f. let z = c.counting ls f in absurd (not_none z.0 z.1 h n) }

  pub levels_end : length text ≤ at → CountsLevels text a from sum
  unfolding decoded_from spelled_all
  levels_end h = record {
    counts = λ ls f.
        let z = c.counting ls f in
        let e = at_end some_level z.0 z.1 h in
        omega (arith, z.2, ap (given flash last) e, ap (given wires last) e);
  }

  pub levels_next : {l : Level} {p : ℕ} {f w : Turn Bits} {n k : ℕ} → Got spelled_level LevelOk text at l p → f ≡ turn_of flash last l → w ≡ turn_of wires last l →
      n ≡ length (spelled_all (records_at l.stamp (events_of f.out))) → k ≡ length (spelled_all (records_at l.stamp (events_of w.out))) →
      CountingLevels text a from p l f.bits w.bits (sum + (n + k))
  unfolding levels
  levels_next {l = l} g e h i j = record {
    counting = λ ls q.
        let z = c.counting ls q in
        let y = took some_level z.0 z.1 g in (
          y.0,
          y.1,
          omega (arith, z.2, ap (given flash last) y.2, ap (given wires last) y.2, given_next flash last l y.0 e i, given_next wires last l y.0 h j),
        );
  }

-- ---- the logger's trace
abbrev takes : List Record → ℕ
takes rs = length (spelled_all (taken_of rs))

takes_in : (r : Record) (rs : List Record) → taken r.event ≡ true → takes (r ∷ rs) ≡ length (spelled r) + takes rs
unfolding filter keep spelled_all
takes_in r rs e = rw e (length-append (spelled r) (spelled_all (taken_of rs)))

takes_out : (r : Record) (rs : List Record) → taken r.event ≡ false → takes (r ∷ rs) ≡ takes rs
unfolding filter keep
takes_out r rs e = rw e

pub record CountingTaken (text : List ℕ) (from at sum : ℕ) : Type 0 where
  pub counting : (rs : List Record) → From records text from rs → (rs' : List Record) × From records text at rs' × (takes rs ≡ sum + takes rs')

pub taken_start : {text : List ℕ} {from : ℕ} → CountingTaken text from from 0
taken_start = record { counting = λ rs f. (rs, f, omega arith) }

module _ {text : List ℕ} {from at sum : ℕ} (c : CountingTaken text from at sum) where
  pub taken_none : at < length text → ((r : Record) → RecordOk r → Stands text at (spelled r) → ⊥) → CountsTaken text from sum
  unfolding records
  taken_none h n = record { counts = λ rs f. let z = c.counting rs f in absurd (not_none z.0 z.1 h n) }

  pub taken_end : length text ≤ at → CountsTaken text from sum
  unfolding filter spelled_all
  taken_end h = record {
    counts = λ rs f.
        let z = c.counting rs f in
        omega (arith, z.2, ap takes (at_end some_record z.0 z.1 h));
  }

  module _ {r : Record} {p : ℕ} (g : Got spelled RecordOk text at r p) where
    pub taken_next : taken r.event ≡ true → CountingTaken text from p (sum + (p - at))
    unfolding records
    taken_next e = record {
      counting = λ rs f.
          let z = c.counting rs f in
          let y = took some_record z.0 z.1 g in
          (y.0, y.1, omega (arith, z.2, ap takes y.2, takes_in r y.0 e, g.next));
    }

    pub taken_passed : taken r.event ≡ false → CountingTaken text from p sum
    unfolding records
    taken_passed e = record {
      counting = λ rs f.
          let z = c.counting rs f in
          let y = took some_record z.0 z.1 g in
          (y.0, y.1, omega (arith, z.2, ap takes y.2, takes_out r y.0 e));
    }

-- ---- both
-- the merged trace's lines are those of both texts
pub merged_length : (a : Level) (ls : List Level) (rs m : List Record) → Merged (a ∷ ls) rs m → length (spelled_all m) ≡ given flash_start a ls + given wires_start a ls + takes rs
merged_length a ls rs m p =
    omega (
      arith,
      merged_total line_length a ls rs m p,
      all_total m,
      all_total (decoded_from flash_start a ls),
      all_total (decoded_from wires_start a ls),
      all_total (taken_of rs),
    )
