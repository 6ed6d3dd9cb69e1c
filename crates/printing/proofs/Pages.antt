-- The table that the call leaves, read back: an entry says its page's time, and so the lines are those of the pages written.
use Prim.Native.Nat.{ℕ, zero, suc, ◌+◌, ◌≤◌, ◌<◌}
use native.Mathlib.Omega.{arith}
use mathlib.Core.Path.{◌≡◌, refl, sym, ap, ap₂, subst, ◌∙◌}
use mathlib.Core.Logic.{◌⊎◌, inl, inr}
use mathlib.Core.List.{List, ◌++◌}
use borrow.Author.Tests.{eq-eqb, ne_eqb}
use lib.ListN.{get_or}
use Rattle.law.specs.Words.{All}
use Rattle.meaning.specs.Meaning.{after}
use Rattle.record.specs.declared.Board.{Board}
use Rattle.record.specs.declared.Chip.{Chip}
use Rattle.record.specs.declared.Chip.TheVariants.{Flash, Eeprom}
use Rattle.record.specs.declared.Record.{Record}
use Rattle.field.specs.Decimal.{largest}
use Rattle.image.specs.Images.{Images}
use Rattle.times.specs.Times.{Time, never, written, Times, pages_of, first_entry, entry_byte, time_bytes}
use Rattle.machine.specs.Machine.{Machine, machine_at_start, on_machine}
use Rattle.demands.specs.Times.{NoneWrites, WrittenLast, entry_place}
use Rattle.demands.proofs.LastTime.{time_of, none_time, written_time, one_of_two}
use Rattle.demands.proofs.Entries.{byte_at}
use Rattle.demands.proofs.Times.{at_start, last_fits}
use Rattle.listing.specs.Bytes.{number_at}
use Rattle.listing.specs.Pages.{time_line, lines_below, written_lines, time_at, times_in}
use Rattle.printing.proofs.Numbers.{four_back}

-- a time that an entry can hold
abbrev Holds : Time → Type 0
Holds never = Unit {0}
Holds (written t) = t ≤ largest

-- ---- one entry
module _ (y : Times) (chip : Chip) (n : ℕ) (l : n < pages_of chip) where
  abbrev table : List ℕ
  table = time_bytes y

  at : (time : Time) → time_of chip n y ≡ time → (q : ℕ) → q < 5 → get_or table (entry_place chip n + q) 0 ≡ entry_byte time q
  at time e q h = byte_at y chip n l q h ∙ ap (λ (t : Time). entry_byte t q) e

  mark : (time : Time) → time_of chip n y ≡ time → get_or table (entry_place chip n) 0 ≡ entry_byte time 0
  mark time e = let z : entry_place chip n ≡ entry_place chip n + 0 = omega arith in ap (λ (k : ℕ). get_or table k 0) z ∙ at time e 0 (omega arith)

  number : (t : ℕ) → t ≤ largest → time_of chip n y ≡ written t → number_at table (entry_place chip n + 1) ≡ t
  unfolding number_at
  number t h e =
      let two : entry_place chip n + 1 + 1 ≡ entry_place chip n + 2 = omega arith in
      let three : entry_place chip n + 1 + 2 ≡ entry_place chip n + 3 = omega arith in
      let four : entry_place chip n + 1 + 3 ≡ entry_place chip n + 4 = omega arith in
      let b1 = at (written t) e 1 (omega arith) in
      let b2 = ap (λ (k : ℕ). get_or table k 0) two ∙ at (written t) e 2 (omega arith) in
      let b3 = ap (λ (k : ℕ). get_or table k 0) three ∙ at (written t) e 3 (omega arith) in
      let b4 = ap (λ (k : ℕ). get_or table k 0) four ∙ at (written t) e 4 (omega arith) in
      rw (b1, b2, b3, b4) (four_back t h)

  -- it says the page's time
  says : (time : Time) → time_of chip n y ≡ time → Holds time → time_at table (first_entry chip + n) ≡ time
  unfolding time_at
  says never e h = simp (eq-eqb _ 0 (mark never e))
  says (written t) e h = simp (ne_eqb (get_or table (entry_place chip n) 0) 0 (λ z. omega (arith, mark (written t) e))) (ap written (number t h e))

-- ---- the lines
lines_same : (chip : Chip) (y z : ℕ → Time) (n : ℕ) → ((k : ℕ) → k < n → y k ≡ z k) → lines_below chip y n ≡ lines_below chip z n
unfolding lines_below
lines_same chip y z zero h = refl
lines_same chip y z (suc n) h = ap₂ (λ (l : List ℕ) (t : Time). l ++ time_line chip n t) (lines_same chip y z n (λ k l. h k (omega arith))) (h n (omega arith))

table_lines : (y : Times) → ((chip : Chip) (n : ℕ) → n < pages_of chip → Holds (time_of chip n y)) → written_lines (times_in (time_bytes y)) ≡ written_lines y
unfolding written_lines
table_lines y h =
    ap₂ (λ (a b : List ℕ). a ++ b) (lines_same Flash _ y.flash (pages_of Flash) (λ n l. says y Flash n l (y.flash n) refl (h Flash n l)))
    (lines_same Eeprom _ y.eeprom (pages_of Eeprom) (λ n l. says y Eeprom n l (y.eeprom n) refl (h Eeprom n l)))

-- ---- of records whose stamps are in range
module _ (b : Board) (ps : List Record) (x : Images) (small : All (λ (r : Record). r.stamp ≤ largest) ps) where
  abbrev start : Machine
  start = machine_at_start b x

  held : (chip : Chip) (n : ℕ) → Holds (time_of chip n (after (on_machine b) ps start).times)
  held chip n = by (one_of_two b chip n ps start)
    where
      by : ((t : ℕ) × WrittenLast b start ps chip n t) ⊎ NoneWrites b start ps chip n → Holds (time_of chip n (after (on_machine b) ps start).times)
      by (inl w) = subst Holds (sym (written_time b chip n ps start w.0 w.1)) (last_fits b start ps chip n w.0 w.1 small)
      by (inr none) = subst Holds (sym (none_time b chip n ps start none ∙ at_start b x chip n)) tt

  pub lines_back : written_lines (times_in (time_bytes (after (on_machine b) ps start).times)) ≡ written_lines (after (on_machine b) ps start).times
  lines_back = table_lines (after (on_machine b) ps start).times (λ chip n l. held chip n)
