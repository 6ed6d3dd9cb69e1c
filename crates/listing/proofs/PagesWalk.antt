-- The lines of the pages written: of one page, of a chip's first ones, and of both chips.
use Prim.Native.Nat.{ℕ, ◌+◌, ◌*◌, ◌≤◌, ◌<◌}
use native.Mathlib.Omega.{arith}
use native.Mathlib.Numerals.{add-one}
use mathlib.Core.Path.{◌≡◌, refl, sym, ap, ap₂, subst, ◌∙◌}
use mathlib.Core.List.{List, [], ◌++◌}
use lib.ListN.{length, get_or, length-append}
use lib.Seq.{sets}
use borrow.Author.Tests.{eq-eqb, ne_eqb}
use Rattle.record.specs.declared.Chip.{Chip}
use Rattle.record.specs.declared.Chip.TheVariants.{Flash, Eeprom}
use Rattle.field.specs.Spelling.{no_bytes, put_all}
use Rattle.field.specs.Room.{room}
use Rattle.times.specs.Times.{pages_of, first_entry, entry_length, entries}
use Rattle.listing.specs.Bytes.{number_at}
use Rattle.listing.specs.Pages.{pages_heading, page_line, time_line, lines_below, written_lines, time_at, times_in}
use Rattle.listing.specs.Writing.{ListsLines, chip_lines}
use Rattle.listing.proofs.Stores.{joined}
use Rattle.listing.proofs.Whole.{rewritten, line_written}

-- every page's entry is one of the table's
pub few : (chip : Chip) (n : ℕ) → n < pages_of chip → first_entry chip + n < entries
few Flash n l = omega arith
few Eeprom n l = omega arith

-- two runs of lines, the second where the first ends
pub both_written : {w v old mid new : List ℕ} {from at n most more : ℕ} → ListsLines w old from most mid at → ListsLines v mid at more new n → ListsLines (w ++ v) old from (most + more) new n
both_written {w} {v} {old} {mid} {new} {from} {at} {n} {most} {more} a b = record {
  place = omega (arith, a.place, b.place, length-append w v);
  content = b.content ∙ ap₂ (λ (l : List ℕ) (k : ℕ). sets l k v) a.content a.place ∙ joined w v old from;
  space = omega (arith, a.space, b.space);
}

-- ---- one page
module _ (table : List ℕ) (chip : Chip) (n : ℕ) (old : List ℕ) (at : ℕ) where
  abbrev line : List ℕ
  line = time_line chip n (time_at table (first_entry chip + n))

  module _ {first : ℕ} (is : first ≡ first_entry chip) where
    pub no_line : get_or table (entry_length * (first + n)) 0 ≡ 0 → ListsLines line old at 1 old at
    unfolding time_line time_at
    no_line h =
        let t : get_or table (entry_length * (first_entry chip + n)) 0 ≡ 0 = ap (λ (k : ℕ). get_or table (entry_length * (k + n)) 0) (sym is) ∙ h in
        let e : line ≡ [] = simp (eq-eqb _ _ t) in
        rewritten (sym e) (record { place = omega arith; content = refl; space = omega arith })

    pub one_line : (get_or table (entry_length * (first + n)) 0 ≡ 0 → ⊥) → {stamp m : ℕ} {new : List ℕ} {s : List ℕ} → stamp ≡ number_at table (entry_length * (first + n) + 1) → s ≡ put_all no_bytes (page_line chip n stamp)
        → length (page_line chip n stamp) ≤ room → m ≡ at + length s → new ≡ sets old at s → ListsLines line old at 1 new m
    unfolding time_line time_at
    one_line h {stamp} {m} {new} {s} so e short p q =
        let t : get_or table (entry_length * (first_entry chip + n)) 0 ≡ 0 → ⊥ = λ z. h (ap (λ (k : ℕ). get_or table (entry_length * (k + n)) 0) is ∙ z) in
        let k : line ≡ page_line chip n (number_at table (entry_length * (first_entry chip + n) + 1)) = simp (ne_eqb _ _ t) in
        let u : stamp ≡ number_at table (entry_length * (first_entry chip + n) + 1) = so ∙ ap (λ (j : ℕ). number_at table (entry_length * (j + n) + 1)) is in
        rewritten (ap (page_line chip n) u ∙ sym k) (line_written (page_line chip n stamp) old new at m e short p q)

-- ---- a chip's first n pages
module _ (table : List ℕ) (chip : Chip) where
  abbrev first : ℕ → List ℕ
  first n = lines_below chip (λ k. time_at table (first_entry chip + k)) n

  pub begun : (old : List ℕ) (from : ℕ) → ListsLines (first 0) old from 0 old from
  unfolding lines_below
  begun old from = record { place = omega arith; content = refl; space = omega arith }

  pub one_more : {old mid new : List ℕ} {from at m n : ℕ} → ListsLines (first n) old from n mid at → ListsLines (time_line chip n (time_at table (first_entry chip + n))) mid at 1 new m → ListsLines (first (n + 1)) old from (n + 1) new m
  unfolding lines_below
  one_more {n = n} a b = rewritten (sym (ap first (add-one n))) (both_written a b)

  -- all of them
  pub all_listed : {old new : List ℕ} {from at n : ℕ} → n ≡ pages_of chip → ListsLines (first n) old from n new at → ListsLines (chip_lines chip table) old from (pages_of chip) new at
  all_listed {old} {new} {from} {at} e l = subst (λ (k : ℕ). ListsLines (first k) old from k new at) e l

-- ---- the heading, and both chips
pub all_written : (table : List ℕ) {old mid later new : List ℕ} {from at n : ℕ} → ListsLines pages_heading old 0 1 mid from → ListsLines (chip_lines Flash table) mid from (pages_of Flash) later at
    → ListsLines (chip_lines Eeprom table) later at (pages_of Eeprom) new n → ListsLines (pages_heading ++ written_lines (times_in table)) old 0 (entries + 1) new n
unfolding written_lines
all_written table h f e =
    let l = both_written h (both_written f e) in
    record { place = l.place; content = l.content; space = omega (arith, l.space) }
