-- What is printed, by what the call of the plan leaves. Assumes nothing.
use Prim.Native.Nat.{ℕ, ◌+◌, ◌*◌, ◌/◌, ◌%◌, ◌≤◌, ◌<◌}
use native.Mathlib.Omega.{arith}
use mathlib.Core.Path.{◌≡◌, refl, sym, ap, subst, ◌∙◌}
use mathlib.Core.Bool.{false}
use mathlib.Core.List.{List, [], ◌∷◌, ◌++◌}
use lib.ListN.{length, get_or, drop, length-append}
use borrow.Author.Tests.{eq-eqb}
use Rattle.law.specs.Words.{All}
use Rattle.law.specs.Choice.{split}
use Rattle.page.specs.Geometry.{flash_size, flash_page, chip_pages}
use Rattle.record.specs.Lengths.{plan_result_length}
use Rattle.buffers.specs.Buffers.{plan_result_after}
use Rattle.listing.specs.Bytes.{number_at}
use Rattle.field.specs.Decimal.{largest}
use Rattle.field.specs.Reads.{Stands}
use Rattle.fewest.specs.Entries.{Entry, sector_erase, chip_erase, program}
use Rattle.fewest.specs.Fewest.{IsPlan, DiffersLocked, Formed, spelled_list, most_room}
use Rattle.fewest.specs.Plan.{differs_locked}
use Rattle.fewest.specs.Call.{Left, laid_over, Fits, Plans, unfit, locked, no_room, planned}
use Rattle.fewest.proofs.Theorems.{refusal_15}
use Rattle.fewest.proofs.Outcomes.{the_plan}
use Rattle.fewest.proofs.Sizes.{length_page, plan_room}
use Rattle.entries.specs.Printed.{Usable, PlanPrinted, refusal_line, cycles_line, entry_lines, print_room}
use Rattle.entries.specs.Lines.{lines_from, Inside, Kinds, number_in, outcome_lines}
use Rattle.entries.proofs.Status.{Spells}
use Rattle.entries.proofs.Putting.{cycles_length, refusal_length}
use Rattle.entries.proofs.Meaning.{Whole, lines_are, inside_are, kinds_are}
use Rattle.entries.proofs.Bounds.{plan_most, many_most}

-- four bytes, low byte first, are that number
low_back : (a : ℕ) → a % 256 + 256 * (a / 256 % 256) ≡ a % 65536
low_back a = omega arith

number_back : (a : ℕ) → a < 65536 → a % 256 + 256 * (a / 256 % 256 + 256 * (a / 65536 % 256 + 256 * (a / 16777216 % 256))) ≡ a
number_back a h =
    let z : a / 65536 ≡ 0 = omega arith in
    let y : a / 16777216 ≡ 0 = omega arith in
    omega (arith, low_back a)

module _ (present wanted text : List ℕ) (status : ℕ) (byte : status < 256) (read : Spells text status) (list result : List ℕ) (result_whole : length result ≡ plan_result_length) where
  -- the call's grounds of 14 are those of what is printed
  usable_if : Fits status present wanted list result → Usable present wanted text status
  usable_if f =
      record {
        present_whole = f.present_whole;
        wanted_whole = f.wanted_whole;
        spelled = read.only;
        status_bits = f.status_bits;
      }

  if_usable : (s : ℕ) → Usable present wanted text s → Fits status present wanted list result
  if_usable s u =
      subst (λ (k : ℕ). Fits k present wanted list result) (sym (read.found s u.status_bits.0 u.spelled))
      record { present_whole = u.present_whole; wanted_whole = u.wanted_whole; result_whole = result_whole; status_bits = u.status_bits }

  module _ (presentBytes : (k : ℕ) → get_or present k 0 < 256) (wantedBytes : (k : ℕ) → get_or wanted k 0 < 256) (list-whole : length list ≡ most_room) where
    allowed : (DiffersLocked status present wanted → ⊥) → differs_locked present wanted status ≡ false
    allowed none = split (differs_locked present wanted status) (λ t. absurd (none ((refusal_15 status present wanted).holds t))) (λ t. t)

    -- the list has room for every plan
    never_short : (os : List Entry) → Fits status present wanted list result → (DiffersLocked status present wanted → ⊥) → IsPlan status present wanted os
        → length (spelled_list os) ≤ length list
    never_short os f none is =
        let same = the_plan status present wanted list result byte presentBytes wantedBytes os none is in
        let most = plan_room status present wanted presentBytes wantedBytes (allowed none) f.wanted_whole in
        omega (arith, ap (λ (l : List Entry). length (spelled_list l)) same)

    whole_one : length wanted ≡ flash_size → (o : Entry) → Formed wanted o → Whole o
    whole_one w (sector_erase s) f = tt
    whole_one w chip_erase f = tt
    whole_one w (program n bytes) f = ap length f.1 ∙ length_page wanted n w f.0

    whole_all : length wanted ≡ flash_size → (os : List Entry) → All (Formed wanted) os → All Whole os
    unfolding All
    whole_all w [] f = tt
    whole_all w (o ∷ os) f = (whole_one w o f.0, whole_all w os f.1)

    -- what the call leaves is printed as it must be
    pub record Printable (x : Left) : Type 0 where
      pub is : PlanPrinted present wanted text (outcome_lines x.answer x.list x.result)
      pub most : length (outcome_lines x.answer x.list x.result) ≤ print_room
      pub inside : x.answer ≡ 0 → Inside x.list (number_in x.result) 0
      pub kinds : x.answer ≡ 0 → Kinds x.list (number_in x.result) 0

    -- a plan's bytes
    module _ (os : List Entry) (fits : length (spelled_list os) ≤ length list) (whole : All Whole os) where
      few : length os ≤ 33281
      few = omega (arith, many_most os)

      number_is : number_in (plan_result_after 0 (length os) result) ≡ length os
      unfolding number_at plan_result_after
      number_is = rw (eq-eqb (length result) plan_result_length result_whole) (number_back (length os) (omega (arith, few)))

      at_start : Stands (laid_over (spelled_list os) list) 0 (spelled_list os)
      unfolding laid_over
      at_start = record { rest = drop (length (spelled_list os)) list; is = refl }

      plan_lines : outcome_lines 0 (laid_over (spelled_list os) list) (plan_result_after 0 (length os) result) ≡ entry_lines os ++ cycles_line (length os)
      unfolding outcome_lines
      plan_lines =
          ap (λ (n : ℕ). lines_from (laid_over (spelled_list os) list) n 0 ++ cycles_line n) number_is
          ∙ ap (λ (l : List ℕ). l ++ cycles_line (length os)) (lines_are (laid_over (spelled_list os) list) os 0 whole at_start)

      plan_inside : Inside (laid_over (spelled_list os) list) (number_in (plan_result_after 0 (length os) result)) 0
      plan_inside = subst (λ (n : ℕ). Inside (laid_over (spelled_list os) list) n 0) (sym number_is) (inside_are (laid_over (spelled_list os) list) os 0 whole at_start)

      plan_kinds : Kinds (laid_over (spelled_list os) list) (number_in (plan_result_after 0 (length os) result)) 0
      plan_kinds = subst (λ (n : ℕ). Kinds (laid_over (spelled_list os) list) n 0) (sym number_is) (kinds_are (laid_over (spelled_list os) list) os 0 whole at_start)

    -- a refusal
    refusal_most : (a : ℕ) → a ≤ largest → length (refusal_line a) ≤ print_room
    refusal_most a h = omega (arith, refusal_length a h)

    pub printable : (x : Left) → Plans status present wanted list result x → Printable x
    unfolding outcome_lines
    printable x (unfit f) =
        record {
          is = PlanPrinted.unfit (λ s u. f (if_usable s u));
          most = refusal_most 14 (omega arith);
          inside = λ e. absurd (omega arith);
          kinds = λ e. absurd (omega arith);
        }
    printable x (locked f d) =
        record {
          is = PlanPrinted.locked status (usable_if f) d;
          most = refusal_most 15 (omega arith);
          inside = λ e. absurd (omega arith);
          kinds = λ e. absurd (omega arith);
        }
    printable x (no_room os f none is s) = absurd (omega (arith, never_short os f none is))
    printable x (planned os f none is s) =
        let whole = whole_all f.wanted_whole os is.formed in
        let lines = plan_lines os s whole in
        let same = the_plan status present wanted list result byte presentBytes wantedBytes os none is in
        let most =
        subst (λ (l : List Entry). length (entry_lines l) ≤ (2 * flash_page + 16) * chip_pages + 80) (sym same) (plan_most status present wanted) in
        record {
          is = subst (λ (l : List ℕ). PlanPrinted present wanted text l) (sym lines) (PlanPrinted.planned status os (usable_if f) none is);
          most =
              omega (
                arith,
                most,
                ap length lines,
                length-append (entry_lines os) (cycles_line (length os)),
                cycles_length (length os) (omega (arith, few os s whole)),
              );
          inside = λ e. plan_inside os s whole;
          kinds = λ e. plan_kinds os s whole;
        }
