-- The claims of request 6/12, of any outcome that the promise admits. Assumes nothing.
use Prim.Native.Nat.{ℕ, suc, ◌+◌, ◌≤◌, ◌<◌}
use mathlib.Core.Path.{◌≡◌, refl, sym, ap, ◌∙◌, subst}
use mathlib.Core.Bool.{true, false}
use mathlib.Core.Logic.{◌⊎◌, inl, inr}
use mathlib.Core.List.{List, [], ◌∷◌, ◌++◌}
use native.Mathlib.Omega.{arith}
use lib.ListN.{length, get_or, drop, take}
use borrow.Author.Tests.{eq-eqb}
use Rattle.law.specs.Words.{All}
use Rattle.page.specs.Geometry.{flash_size, chip_pages, flash_sectors}
use Rattle.record.specs.declared.Board.{Board}
use Rattle.record.specs.declared.Record.{Record}
use Rattle.record.specs.declared.PlanAnswer.TheVariants.{Unfit, Locked, NoRoom}
use Rattle.record.specs.Lengths.{plan_result_length}
use Rattle.record.specs.Word.{word}
use Rattle.buffers.specs.Buffers.{plan_result_after}
use Rattle.flash.specs.Step.{start_of}
use Rattle.machine.specs.Machine.{Machine}
use Rattle.fewest.specs.Entries.{Entry, sector_erase, chip_erase, program, byte_after_all, Yields, cycles, has, is_chip_erase}
use Rattle.fewest.specs.Fewest.{IsPlan, DiffersLocked, Formed, spelled_list, most_room}
use Rattle.fewest.specs.Call.{Left, left_as, laid_over, Fits, refused_with, Plans, unfit, locked, no_room, planned}
use Rattle.fewest.specs.Plan.{plan_of, differs_locked, called}
use Rattle.fewest.proofs.Cycles.{cycles_le, each_starts}
use Rattle.fewest.proofs.Outcomes.{called_plans, allowed, the_plan, is_plan, determined}
use Rattle.fewest.proofs.Sizes.{length_page, plan_most, plan_room}
use Rattle.refill.specs.Records.{events_of_all, Bear, Shows}
use Rattle.refill.specs.Refill.{Bytes, Sized, Read, Replayed, PlanYields, PlanReplays, PlanFewest, PlanNoChip, PlanGrounds, PlanClaims, AllPlanClaims, SomePlan}
use Rattle.refill.proofs.OneReading.{read_one}
use Rattle.refill.proofs.Replayed.{plan_replays}

-- a plan's programs have whole pages
all_sized : (wanted : List ℕ) → length wanted ≡ flash_size → (os : List Entry) → All (Formed wanted) os → All Sized os
unfolding All
all_sized wanted h [] f = tt
all_sized wanted h (o ∷ os) f = (sized o f.0, all_sized wanted h os f.1)
  where
    sized : (o : Entry) → Formed wanted o → Sized o
    sized (sector_erase s) g = g
    sized chip_erase g = tt
    sized (program n bytes) g = (g.0, ap (λ (l : List ℕ). length l) g.1 ∙ length_page wanted n h g.0)

-- what stands in front
in_front : (xs ys : List ℕ) → take (length xs) (xs ++ ys) ≡ xs
in_front [] ys = refl
in_front (x ∷ xs) ys = ap (λ (l : List ℕ). x ∷ l) (in_front xs ys)

empty : (os : List Entry) → length os ≤ 0 → os ≡ []
empty [] h = refl
empty (o ∷ os) h = absurd (omega arith)

module _ (status : ℕ) (present wanted list result : List ℕ) (byte : status < 256) (presentBytes : Bytes present) (wantedBytes : Bytes wanted) where
  abbrev fits : Type 0
  fits = Fits status present wanted list result

  abbrev differs : Type 0
  differs = DiffersLocked status present wanted

  -- an outcome with 0: the plan, and what is left
  record Made (left : Left) : Type 0 where
    plan : List Entry
    fit : fits
    none : differs → ⊥
    is : IsPlan status present wanted plan
    roomy : length (spelled_list plan) ≤ length list
    leaves : left ≡ left_as 0 (laid_over (spelled_list plan) list) (plan_result_after 0 (length plan) result)

  with_0 : (left : Left) → Plans status present wanted list result left → left.answer ≡ 0 → Made left
  with_0 left (unfit f) e = absurd (omega arith)
  with_0 left (locked f d) e = absurd (omega arith)
  with_0 left (no_room os f n i s) e = absurd (omega arith)
  with_0 left (planned os f n i s) e = record { plan = os; fit = f; none = n; is = i; roomy = s; leaves = refl }

  plan_is_that : (os : List Entry) → (differs → ⊥) → IsPlan status present wanted os → os ≡ plan_of present wanted status
  plan_is_that = the_plan status present wanted list result byte presentBytes wantedBytes

  module _ (left : Left) (h : Plans status present wanted list result left) where
    module _ (nought : left.answer ≡ 0) where
      abbrev m : Made left
      m = with_0 left h nought

      abbrev plan : List Entry
      plan = m.plan

      ok : differs_locked present wanted status ≡ false
      ok = allowed status present wanted list result byte presentBytes wantedBytes m.none

      -- the plan can be read off, and nothing else
      most : length plan ≤ chip_pages + 1
      most =
          subst (λ (o : List Entry). length o ≤ chip_pages + 1) (sym (plan_is_that plan m.none m.is))
          (plan_most status present wanted presentBytes wantedBytes ok m.fit.wanted_whole)

      sized : All Sized plan
      sized = all_sized wanted m.fit.wanted_whole plan m.is.formed

      reads : Read left plan
      unfolding plan_result_after laid_over
      reads = record {
        number = ap (λ (x : Left). x.result) m.leaves ∙ rw (eq-eqb (length result) plan_result_length m.fit.result_whole) refl;
        number_fits = omega (arith, most);
        spelled = ap (λ (x : Left). take (length (spelled_list plan)) x.list) m.leaves ∙ in_front (spelled_list plan) (drop (length (spelled_list plan)) list);
        sized = sized;
      }

      same : (os : List Entry) → Read left os → os ≡ plan
      same os r = read_one left os plan r reads

      as_plan : (P : List Entry → Type 0) → P plan → (os : List Entry) → Read left os → P os
      as_plan P p os r = subst P (sym (same os r)) p

      yields : PlanYields status present wanted list result left
      yields = as_plan (Yields status present wanted) m.is.few.yields

      replays : PlanReplays status present wanted list result left
      replays =
          as_plan
          (λ os.
          (b : Board) (w : ℕ) → w < flash_sectors → b.sector ≡ suc w
          → (x : Machine) → x.controls.flash ≡ start_of status → x.controls.lines.supply ≡ true → Shows w x.images.flash present
          → (rs : List Record) → Bear rs (events_of_all os) → Replayed status present wanted list result left os b x rs)
          (plan_replays status present wanted list result left m.fit.status_bits plan sized (each_starts status plan m.is.few.all_start) m.is.few.yields)

      fewest : PlanFewest status present wanted list result left
      fewest =
          as_plan (λ os. (other : List Entry) → Yields status present wanted other → (length os ≤ length other) × (length os ≤ cycles status other))
          (λ other y.
          let l = m.is.few.fewest other y in
          (omega (arith, l, cycles_le status other), l))

      no_chip : PlanNoChip status present wanted list result left
      no_chip =
          as_plan
          (λ os.
          has is_chip_erase os ≡ true
          → (other : List Entry) → Yields status present wanted other → ((third : List Entry) → Yields status present wanted third → length other ≤ length third)
          → has is_chip_erase other ≡ true)
          (λ c other y shortest.
          m.is.few.chip_erase_lem c other y
          (omega (arith, m.is.few.fewest other y, cycles_le status other, shortest plan m.is.few.yields)))

    one_outcome : (other : Left) → Plans status present wanted list result other → left ≡ other
    one_outcome other p = determined status present wanted list result byte presentBytes wantedBytes left other h p

    answers : (left : Left) → Plans status present wanted list result left → (left.answer ≡ 0) ⊎ ((left.answer ≡ 14) ⊎ ((left.answer ≡ 15) ⊎ (left.answer ≡ 16)))
    answers left (unfit f) = inr (inl refl)
    answers left (locked f d) = inr (inr (inl refl))
    answers left (no_room os f n i s) = inr (inr (inr refl))
    answers left (planned os f n i s) = inl refl

    with_14 : (left : Left) → Plans status present wanted list result left → left.answer ≡ 14 → fits → ⊥
    with_14 left (unfit f) e = f
    with_14 left (locked f d) e = absurd (omega arith)
    with_14 left (no_room os f n i s) e = absurd (omega arith)
    with_14 left (planned os f n i s) e = absurd (omega arith)

    with_15 : (left : Left) → Plans status present wanted list result left → left.answer ≡ 15 → fits × differs
    with_15 left (unfit f) e = absurd (omega arith)
    with_15 left (locked f d) e = (f, d)
    with_15 left (no_room os f n i s) e = absurd (omega arith)
    with_15 left (planned os f n i s) e = absurd (omega arith)

    with_16 : (left : Left) → Plans status present wanted list result left → left.answer ≡ 16
        → fits × (differs → ⊥) × ((os : List Entry) → IsPlan status present wanted os → length list < length (spelled_list os))
    with_16 left (unfit f) e = absurd (omega arith)
    with_16 left (locked f d) e = absurd (omega arith)
    with_16 left (no_room os f n i s) e =
        (f, n, λ ps j. subst (λ (o : List Entry). length list < length (spelled_list o)) (plan_is_that os n i ∙ sym (plan_is_that ps n j)) s)
    with_16 left (planned os f n i s) e = absurd (omega arith)

    grounds : PlanGrounds status present wanted list result left
    grounds = record {
      answers = answers left h;
      only_14 = with_14 left h;
      when_14 = λ f. one_outcome (refused_with status present wanted list result Unfit) (unfit f);
      only_15 = with_15 left h;
      when_15 = λ f d. one_outcome (refused_with status present wanted list result Locked) (locked f d);
      only_16 = with_16 left h;
      when_16 = λ f n os i s. one_outcome (refused_with status present wanted list result NoRoom) (no_room os f n i s);
      only_0 = λ e. ((m e).fit, (m e).none, (plan e, (m e).is, reads e, (m e).roomy, ap (λ (x : Left). x.list) (m e).leaves, same e));
      when_0 = λ f n os i s.
          ap (λ (x : Left). x.answer) (one_outcome (left_as 0 (laid_over (spelled_list os) list) (plan_result_after 0 (length os) result)) (planned os f n i s));
      one_plan = λ n os other i j. plan_is_that os n i ∙ sym (plan_is_that other n j);
      determined = one_outcome;
    }

    -- nothing to do: the empty list yields the content
    nothing : fits → present ≡ wanted → left ≡ left_as 0 list (word 0 ++ word 0)
    unfolding Yields byte_after_all cycles plan_result_after laid_over spelled_list
    nothing f e =
        let none : differs → ⊥ = λ d. d.3 (ap (λ (l : List ℕ). get_or l d.0 0) e) in
        let is = is_plan status present wanted list result byte presentBytes wantedBytes none in
        let few : length (plan_of present wanted status) ≤ 0 = is.few.fewest [] (λ k l. ap (λ (x : List ℕ). get_or x k 0) e) in
        let that : plan_of present wanted status ≡ [] = empty (plan_of present wanted status) few in
        one_outcome (left_as 0 list (plan_result_after 0 0 result)) (planned [] f none (subst (IsPlan status present wanted) that is) (omega arith))
        ∙ rw (eq-eqb (length result) plan_result_length f.result_whole) refl

    enough : fits → (differs → ⊥) → most_room ≤ length list → left.answer ≡ 0
    enough f none l =
        let is = is_plan status present wanted list result byte presentBytes wantedBytes none in
        let ok = allowed status present wanted list result byte presentBytes wantedBytes none in
        let fit = plan_room status present wanted presentBytes wantedBytes ok f.wanted_whole in
        ap (λ (x : Left). x.answer)
        (one_outcome (left_as 0 (laid_over (spelled_list (plan_of present wanted status)) list) (plan_result_after 0 (length (plan_of present wanted status)) result))
        (planned (plan_of present wanted status) f none is (omega (arith, fit))))

    pub claims : PlanClaims status present wanted list result left
    claims = record {
      yields = yields;
      replays = replays;
      fewest = fewest;
      no_chip = no_chip;
      grounds = grounds;
      roomy = record { equal = nothing; room = enough };
    }

-- claims 24 to 29
pub all_plan_claims : AllPlanClaims
all_plan_claims status present wanted list result byte p w left h = claims status present wanted list result byte p w left h

pub some_plan : SomePlan
some_plan status present wanted list result byte p w =
    (called status present wanted list result, called_plans status present wanted list result byte p w)
