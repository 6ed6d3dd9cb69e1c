-- What `print_outcome` and `print_plan` leave in the output. Assumes nothing.
use Prim.Native.Nat.{ℕ, ◌+◌, ◌≤◌, ◌<◌}
use native.Mathlib.Omega.{arith}
use mathlib.Core.Path.{◌≡◌, refl, sym, ap, subst, ◌∙◌}
use mathlib.Core.Logic.{⊎_elim}
use mathlib.Core.List.{List, ◌++◌}
use lib.ListN.{length, get_or, drop, replicate, length-replicate, length-append}
use lib.Seq.{sets}
use borrow.Author.Tests.{eq-eqb, ne_eqb}
use Rattle.law.specs.Choice.{lt_or_le}
use Rattle.record.specs.Lengths.{plan_result_length}
use Rattle.field.specs.Decimal.{largest}
use Rattle.field.specs.Spelling.{no_bytes, put_all}
use Rattle.field.proofs.SpellingLaws.{holds}
use Rattle.listing.proofs.Stores.{then}
use Rattle.fewest.specs.Fewest.{most_room}
use Rattle.fewest.specs.Plan.{called}
use Rattle.fewest.specs.Call.{left_as, laid_over, Plans}
use Rattle.fewest.proofs.Outcomes.{called_plans}
use Rattle.planner.proofs.Laying.{laid_over_lem}
use Rattle.entries.specs.Printed.{PlanPrinted, PrintsPlan, print_room, refusal_line, cycles_line}
use Rattle.entries.specs.Lines.{lines_from, Inside, Kinds, number_in, outcome_lines, Ready}
use Rattle.std.specs.Prelude.{Option, Some, None}
use Rattle.entries.specs.Reading.{ReadsStatus}
use Rattle.entries.proofs.Status.{Spells, spells, spells_none}
use Rattle.entries.proofs.Putting.{cycles_length, refusal_length}
use Rattle.entries.proofs.Outcome.{Printable, printable}

-- ---- the outcome
module _ (answer : ℕ) (list result old : List ℕ) (ready : Ready answer list result (length old)) where
  -- a refusal
  module _ (refuses : answer ≡ 0 → ⊥) (small : answer ≤ largest) {s : List ℕ} (put : s ≡ put_all no_bytes (refusal_line answer)) where
    as_refusal : outcome_lines answer list result ≡ refusal_line answer
    unfolding outcome_lines
    as_refusal = simp (ne_eqb answer 0 refuses)

    refusal_held : s ≡ refusal_line answer
    refusal_held = holds (refusal_line answer) put (omega (arith, refusal_length answer small))

    pub refusal_room : 0 + length s ≤ length old
    refusal_room = omega (arith, ap length refusal_held, ap length as_refusal, ready.enough)

    pub refusal_left : (new : List ℕ) (n : ℕ) → n ≡ 0 + length s → new ≡ sets old 0 s
        → (n ≡ length (outcome_lines answer list result)) × (new ≡ sets old 0 (outcome_lines answer list result))
    refusal_left new n e f = (
      omega (arith, ap length refusal_held, ap length as_refusal),
      f ∙ ap (sets old 0) (refusal_held ∙ sym as_refusal),
    )

  -- a plan
  module _ (done : answer ≡ 0) where
    as_plan : outcome_lines answer list result ≡ lines_from list (number_in result) 0 ++ cycles_line (number_in result)
    unfolding outcome_lines
    as_plan = simp (eq-eqb answer 0 done)

    module _ (number : ℕ) (is : number ≡ number_in result) where
      as_number : outcome_lines answer list result ≡ lines_from list number 0 ++ cycles_line number
      as_number = as_plan ∙ ap (λ (n : ℕ). lines_from list n 0 ++ cycles_line n) (sym is)

      as_length : length (outcome_lines answer list result) ≡ length (lines_from list number 0) + length (cycles_line number)
      as_length = ap length as_number ∙ length-append (lines_from list number 0) (cycles_line number)

      pub entries_room : Inside list number 0 × Kinds list number 0 × (length (lines_from list number 0) ≤ length old)
      entries_room = (
        subst (λ (n : ℕ). Inside list n 0) (sym is) (ready.inside done),
        subst (λ (n : ℕ). Kinds list n 0) (sym is) (ready.kinds done),
        omega (arith, as_length, ready.enough),
      )

      module _ (small : number ≤ largest) {s : List ℕ} (put : s ≡ put_all no_bytes (cycles_line number)) (at : ℕ) (after : at ≡ length (lines_from list number 0)) where
        cycles_held : s ≡ cycles_line number
        cycles_held = holds (cycles_line number) put (omega (arith, cycles_length number small))

        pub cycles_room : (m : ℕ) → m ≡ length old → at + length s ≤ m
        cycles_room m e = omega (arith, ap length cycles_held, as_length, ready.enough)

        pub plan_left : (mid new : List ℕ) (n : ℕ) → mid ≡ sets old 0 (lines_from list number 0) → n ≡ at + length s → new ≡ sets mid at s
            → (n ≡ length (outcome_lines answer list result)) × (new ≡ sets old 0 (outcome_lines answer list result))
        plan_left mid new n e f g = (
          omega (arith, ap length cycles_held, as_length),
          then (lines_from list number 0) (cycles_line number) old new e after (g ∙ ap (sets mid at) cycles_held) ∙ ap (sets old 0) (sym as_number),
        )

-- ---- the whole
module _ (present wanted text old : List ℕ) (status : ℕ) (byte : status < 256) (read : Spells text status)
    (presentBytes : (k : ℕ) → get_or present k 0 < 256) (wantedBytes : (k : ℕ) → get_or wanted k 0 < 256) where
  -- no room
  short_some : length old < print_room → PrintsPlan present wanted text old old 0
  short_some h =
      let list : List ℕ = replicate most_room 0 in
      let result : List ℕ = replicate plan_result_length 0 in
      let p =
      printable present wanted text status byte read list result (length-replicate {A = ℕ} plan_result_length 0) presentBytes wantedBytes (length-replicate {A = ℕ} most_room 0)
      (called status present wanted list result) (called_plans status present wanted list result byte presentBytes wantedBytes) in
      record { printed = _; is = p.is; written = λ l. absurd (omega arith); short = λ l. (refl, refl) }

  module _ (list result left end : List ℕ) (answer : ℕ) (list-whole : length list ≡ most_room) (result_whole : length result ≡ plan_result_length)
      (plans : Plans status present wanted list result (left_as answer left end)) (enough : print_room ≤ length old) where
    can : Printable present wanted text status byte read list result result_whole presentBytes wantedBytes list-whole (left_as answer left end)
    can = printable present wanted text status byte read list result result_whole presentBytes wantedBytes list-whole (left_as answer left end) plans

    pub outcome_ready : length end ≡ plan_result_length → Ready answer left end (length old)
    outcome_ready e = record { whole = e; enough = omega (arith, can.most); inside = can.inside; kinds = can.kinds }

    -- it stands at the front
    pub outcome_left : (new : List ℕ) (n : ℕ) → n ≡ length (outcome_lines answer left end) → new ≡ sets old 0 (outcome_lines answer left end) → PrintsPlan present wanted text old new n
    outcome_left new n e f =
        record {
          printed = outcome_lines answer left end;
          is = can.is;
          written = λ _. (e, f ∙ laid_over_lem (outcome_lines answer left end) old (omega (arith, can.most)));
          short = λ s. absurd (omega arith);
        }

-- a text that spells no status
module _ (present wanted text old : List ℕ) (read : ReadsStatus text None) where
  is_unfit : PlanPrinted present wanted text (refusal_line 14)
  is_unfit = PlanPrinted.unfit (λ s u. spells_none text read s u.status_bits.0 u.spelled)

  module _ (number : ℕ) (is : number ≡ 14) (enough : print_room ≤ length old) {s : List ℕ} (put : s ≡ put_all no_bytes (refusal_line number)) where
    unfit_held : s ≡ refusal_line number
    unfit_held = holds (refusal_line number) put (omega (arith, refusal_length number (omega arith)))

    pub unfit_room : 0 + length s ≤ length old
    unfit_room = omega (arith, ap length unfit_held, refusal_length number (omega arith))

    pub unfit_left : (new : List ℕ) (n : ℕ) → n ≡ 0 + length s → new ≡ sets old 0 s → PrintsPlan present wanted text old new n
    unfit_left new n e f =
        let l = refusal_length number (omega arith) in
        let same = ap refusal_line is in
        record {
          printed = refusal_line 14;
          is = is_unfit;
          written = λ _. (
            omega (arith, ap length unfit_held, ap (λ (b : List ℕ). length b) same),
            f ∙ ap (sets old 0) (unfit_held ∙ same) ∙ laid_over_lem (refusal_line 14) old (omega (arith, ap (λ (b : List ℕ). length b) same)),
          );
          short = λ h. absurd (omega arith);
        }

-- no room, whatever the text spells
pub short_left : (present wanted text old : List ℕ) (r : Option ℕ) → ReadsStatus text r → ((k : ℕ) → get_or present k 0 < 256) → ((k : ℕ) → get_or wanted k 0 < 256)
    → length old < print_room → PrintsPlan present wanted text old old 0
short_left present wanted text old None read p w h =
    record { printed = refusal_line 14; is = is_unfit present wanted text old read; written = λ l. absurd (omega arith); short = λ l. (refl, refl) }
short_left present wanted text old (Some status) read p w h = let s = spells text status read in short_some present wanted text old status s.byte s p w h

-- n never reaches beyond the output
pub within : {present wanted text old new : List ℕ} {n : ℕ} → PrintsPlan present wanted text old new n → n ≤ length new
unfolding laid_over
within {old} {new} {n} p =
    ⊎_elim (λ (l : length old < print_room). omega (arith, (p.short l).0))
    (λ (l : print_room ≤ length old).
    let w = p.written l in
    omega (arith, w.0, ap length w.1, length-append p.printed (drop (length p.printed) old)))
    (lt_or_le (length old) print_room)
