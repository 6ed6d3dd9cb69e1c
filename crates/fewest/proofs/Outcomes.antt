-- The call's promise in the request's own words: what the code makes is one of its outcomes, and there is only one.
use Prim.Native.Nat.{ℕ, ◌/◌, ◌%◌, ◌≤◌, ◌<◌}
use mathlib.Core.Path.{◌≡◌, refl, sym, ap, ◌∙◌, subst}
use mathlib.Core.Bool.{true, false}
use mathlib.Core.List.{List}
use lib.Dec.{eqb, ltb}
use lib.ListN.{length, get_or}
use borrow.Author.Tests.{eqb-true, eq-eqb, ltb-true, ltb-false, lt-ltb, le-ltb}
use Rattle.law.specs.Words.{pick}
use Rattle.law.specs.Choice.{split, true_not_false, both}
use Rattle.page.specs.Geometry.{flash_size}
use Rattle.record.specs.declared.PlanAnswer.TheVariants.{Planned}
use Rattle.record.specs.Answers.{plan_answer_number}
use Rattle.record.specs.Lengths.{plan_result_length}
use Rattle.buffers.specs.Buffers.{plan_result_after}
use Rattle.fewest.specs.Entries.{Entry}
use Rattle.fewest.specs.Fewest.{IsPlan, DiffersLocked, spelled_list}
use Rattle.fewest.specs.Call.{Left, left_as, laid_over, Fits, Plans, unfit, locked, no_room, planned}
use Rattle.fewest.specs.Plan.{plan_of, differs_locked, status_fits, fitting, laid, made, called}
use Rattle.fewest.proofs.Theorems.{refusal_15}
use Rattle.fewest.proofs.Only.{plan_is, one_plan}

module _ (status : ℕ) (present wanted list result : List ℕ) (byte : status < 256) where
  fits_if : fitting status (length present) (length wanted) (length result) ≡ true → Fits status present wanted list result
  fits_if h =
      let a = both (eqb (length present) flash_size) (pick (eqb (length wanted) flash_size) (pick (eqb (length result) plan_result_length) (status_fits status) false) false) h in
      let b = both (eqb (length wanted) flash_size) (pick (eqb (length result) plan_result_length) (status_fits status) false) a.1 in
      let c = both (eqb (length result) plan_result_length) (status_fits status) b.1 in
      let d = both (eqb (status % 4) 0) (eqb (status / 16 % 8) 0) c.1 in
      record {
        present_whole = eqb-true (length present) flash_size a.0;
        wanted_whole = eqb-true (length wanted) flash_size b.0;
        result_whole = eqb-true (length result) plan_result_length c.0;
        status_bits = (byte, eqb-true (status % 4) 0 d.0, eqb-true (status / 16 % 8) 0 d.1);
      }

  if_fits : Fits status present wanted list result → fitting status (length present) (length wanted) (length result) ≡ true
  if_fits f =
      rw (
        eq-eqb (length present) flash_size f.present_whole,
        eq-eqb (length wanted) flash_size f.wanted_whole,
        eq-eqb (length result) plan_result_length f.result_whole,
        eq-eqb (status % 4) 0 f.status_bits.1,
        eq-eqb (status / 16 % 8) 0 f.status_bits.2,
      ) refl

  module _ (presentBytes : (k : ℕ) → get_or present k 0 < 256) (wantedBytes : (k : ℕ) → get_or wanted k 0 < 256) where
    abbrev plan : List Entry
    plan = plan_of present wanted status

    -- what the code makes is one of the outcomes
    pub called_plans : Plans status present wanted list result (called status present wanted list result)
    unfolding called made laid
    called_plans =
        split (fitting status (length present) (length wanted) (length result))
        (λ f.
        split (differs_locked present wanted status)
        (λ d. rw (f, d) (locked (fits_if f) ((refusal_15 status present wanted).holds d)))
        (λ d.
        let is = plan_is status present wanted presentBytes wantedBytes d in
        let none = (refusal_15 status present wanted).fails d in
        split (ltb (length list) (length (spelled_list plan)))
        (λ s. rw (f, d, s) (no_room plan (fits_if f) none is (ltb-true (length list) (length (spelled_list plan)) s)))
        (λ s. rw (f, d, s) (planned plan (fits_if f) none is (ltb-false (length list) (length (spelled_list plan)) s)))))
        (λ f. rw f (unfit (λ g. true_not_false (sym (if_fits g) ∙ f))))

    -- and there is only one: each outcome is this one
    pub allowed : (DiffersLocked status present wanted → ⊥) → differs_locked present wanted status ≡ false
    allowed none = split (differs_locked present wanted status) (λ t. absurd (none ((refusal_15 status present wanted).holds t))) (λ t. t)

    refused : DiffersLocked status present wanted → differs_locked present wanted status ≡ true
    refused d = split (differs_locked present wanted status) (λ t. t) (λ t. absurd ((refusal_15 status present wanted).fails t d))

    not_fits : (Fits status present wanted list result → ⊥) → fitting status (length present) (length wanted) (length result) ≡ false
    not_fits none = split (fitting status (length present) (length wanted) (length result)) (λ t. absurd (none (fits_if t))) (λ t. t)

    -- the only list that is what a plan must be
    pub the_plan : (os : List Entry) → (DiffersLocked status present wanted → ⊥) → IsPlan status present wanted os → os ≡ plan
    the_plan os none is =
        one_plan status present wanted presentBytes wantedBytes (allowed none) os plan is
        (plan_is status present wanted presentBytes wantedBytes (allowed none))

    pub is_plan : (DiffersLocked status present wanted → ⊥) → IsPlan status present wanted plan
    is_plan none = plan_is status present wanted presentBytes wantedBytes (allowed none)

    pub only_outcome : (x : Left) → Plans status present wanted list result x → x ≡ called status present wanted list result
    unfolding called made laid
    only_outcome x (unfit f) = rw (not_fits f) refl
    only_outcome x (locked f d) = rw (if_fits f, refused d) refl
    only_outcome x (no_room os f none is s) =
        let t = subst (λ (o : List Entry). length list < length (spelled_list o)) (the_plan os none is) s in
        rw (if_fits f, allowed none, lt-ltb (length list) (length (spelled_list plan)) t) refl
    only_outcome x (planned os f none is s) =
        let e = the_plan os none is in
        let t = subst (λ (o : List Entry). length (spelled_list o) ≤ length list) e s in
        rw (if_fits f, allowed none, le-ltb (length list) (length (spelled_list plan)) t)
        (ap (λ (o : List Entry). left_as (plan_answer_number Planned) (laid_over (spelled_list o) list) (plan_result_after (plan_answer_number Planned) (length o) result)) e)

    pub determined : (x y : Left) → Plans status present wanted list result x → Plans status present wanted list result y → x ≡ y
    determined x y a b = only_outcome x a ∙ sym (only_outcome y b)
