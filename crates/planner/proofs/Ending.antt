-- What the call answers and leaves, by the way through it. Assumes nothing.
use Prim.Native.Nat.{ℕ, ◌≤◌, ◌<◌}
use mathlib.Core.Path.{◌≡◌, refl, sym, ap, ap₂, ◌∙◌, subst}
use mathlib.Core.Bool.{Bool, true, false}
use mathlib.Core.List.{List}
use lib.ListN.{length, get_or}
use borrow.Author.Tests.{lt-ltb, le-ltb}
use Rattle.record.specs.declared.PlanAnswer.{PlanAnswer}
use Rattle.record.specs.declared.PlanAnswer.TheVariants.{Planned, Unfit, Locked, NoRoom}
use Rattle.record.specs.Answers.{plan_answer_number}
use Rattle.buffers.specs.Buffers.{plan_result_after}
use Rattle.fewest.specs.Entries.{Entry}
use Rattle.fewest.specs.Fewest.{spelled_list}
use Rattle.fewest.specs.Call.{Left, left_as, laid_over, Plans}
use Rattle.fewest.specs.Plan.{plan_by, plan_of, by_chip, differs_locked, fitting, Made, made_as, laid, made, called}
use Rattle.fewest.proofs.Outcomes.{called_plans}

pub too_short : (os : List Entry) (list : List ℕ) → length list < length (spelled_list os) → made_as NoRoom 0 list ≡ laid os list
unfolding laid
too_short os list h = rw (lt-ltb (length list) (length (spelled_list os)) h) refl

pub long_enough : (os : List Entry) (list left : List ℕ) (number : ℕ) → length (spelled_list os) ≤ length list → number ≡ length os → left ≡ laid_over (spelled_list os) list
    → made_as Planned number left ≡ laid os list
unfolding laid
long_enough os list left number h n e = rw (le-ltb (length list) (length (spelled_list os)) h) (ap₂ (λ (x : ℕ) (y : List ℕ). made_as Planned x y) n e)

module _ (present wanted : List ℕ) (status : ℕ) where
  -- ---- the refusals in their order

  pub unfit : (list : List ℕ) (result : ℕ) → fitting status (length present) (length wanted) result ≡ false → made_as Unfit 0 list ≡ made status present wanted list result
  unfolding made
  unfit list result h = rw h refl

  pub locked : (list : List ℕ) (result : ℕ) → fitting status (length present) (length wanted) result ≡ true → differs_locked present wanted status ≡ true
      → made_as Locked 0 list ≡ made status present wanted list result
  unfolding made
  locked list result h d = rw (h, d) refl

  pub goes : (list : List ℕ) (result : ℕ) (m : Made) (chip : Bool) → fitting status (length present) (length wanted) result ≡ true → differs_locked present wanted status ≡ false
      → chip ≡ by_chip present wanted status → m ≡ laid (plan_by present wanted status chip) list → m ≡ made status present wanted list result
  unfolding made plan_of
  goes list result m chip h d c e = e ∙ ap (λ (b : Bool). laid (plan_by present wanted status b) list) c ∙ rw (h, d) refl

  -- ---- the outcome

  pub plans_as : status < 256 → ((k : ℕ) → get_or present k 0 < 256) → ((k : ℕ) → get_or wanted k 0 < 256)
      → (list result left bytes : List ℕ) (answer : PlanAnswer) (said number : ℕ) → said ≡ plan_answer_number answer → made_as answer number left ≡ made status present wanted list (length result)
      → bytes ≡ plan_result_after said number result → Plans status present wanted list result (left_as said left bytes)
  unfolding called
  plans_as b p w list result left bytes answer said number n e f =
      let is : left_as said left bytes ≡ called status present wanted list result =
      ap (λ (y : List ℕ). left_as said left y) f
      ∙ ap (λ (x : ℕ). left_as x left (plan_result_after x number result)) n
      ∙ ap (λ (m : Made). left_as (plan_answer_number m.answer) m.list (plan_result_after (plan_answer_number m.answer) m.number result)) e in
      subst (λ (y : Left). Plans status present wanted list result y) (sym is) (called_plans status present wanted list result b p w)
