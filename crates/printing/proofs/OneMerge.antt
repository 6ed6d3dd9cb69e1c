-- Of two texts one thing only is printed by `print_merge`, and it is what the exported call tells.
use Prim.Native.Nat.{ℕ, ◌≤◌}
use native.Mathlib.Omega.{arith}
use borrow.Author.Rules.{rules}
use mathlib.Core.Path.{◌≡◌, sym, ap, subst, ◌∙◌}
use mathlib.Core.Logic.{⊎_elim}
use mathlib.Core.List.{List, ◌++◌}
use lib.ListN.{length, drop, length-append}
use borrow.Author.Tests.{eq-eqb}
use Rattle.std.specs.Prelude.{is_ok}
use Rattle.law.specs.Choice.{lt_or_le}
use Rattle.record.specs.Lengths.{result_length}
use Rattle.capture.specs.Merge.{Judgement, refused, merged}
use Rattle.capture.proofs.OneJudgement.{one_judgement}
use Rattle.text.specs.Texts.{spelled_trace}
use Rattle.printing.specs.Printed.{Written}
use Rattle.printing.specs.MergePrinted.{ToPrint, length_of, printed_for, is_merged, merge_room, PrintsMerge, OneMergeOutcome, MergeTold, MergeJoined}
use Rattle.printing.proofs.MergeLaws.{Fits, fits, Left, left, refusal_numbers, count_number}

-- whether the pair is accepted, and the number, are all of what is given back
same_told : (r r' : ToPrint) → is_ok r ≡ is_ok r' → length_of r ≡ length_of r' → r ≡ r'
same_told r r' a l = search rules

module _ {levels trace old new : List ℕ} {r : ToPrint} (h : PrintsMerge levels trace old new r) where
  -- what is printed never reaches beyond the output
  pub merge_within : length_of r ≤ length new
  merge_within =
      ⊎_elim (λ l. omega (arith, (h.short l).1))
      (λ l. let z = h.written l in let p = printed_for z.0 in omega (arith, z.3.number, ap length z.3.content, length-append p (drop (length p) old)))
      (lt_or_le (length old) merge_room)

  one_of_lem : {new' : List ℕ} {r' : ToPrint} → PrintsMerge levels trace old new' r' → (r ≡ r') × (new ≡ new')
  one_of_lem {new'} {r'} k =
      ⊎_elim
      (λ l.
      let a = h.short l in
      let b = k.short l in
      (same_told r r' (a.0 ∙ sym b.0) (a.1 ∙ sym b.1), a.2 ∙ sym b.2))
      (λ l.
      let a = h.written l in
      let b = k.written l in
      let e = one_judgement a.1 b.1 in
      let is = ap printed_for e in
      (same_told r r' (a.2 ∙ ap is_merged e ∙ sym b.2) (a.3.number ∙ ap length is ∙ sym b.3.number), a.3.content ∙ ap (λ (w : List ℕ). w ++ drop (length w) old) is ∙ sym b.3.content))
      (lt_or_le (length old) merge_room)

pub one_merge_outcome : OneMergeOutcome
one_merge_outcome levels trace old new new' r r' h k = one_of_lem h k

pub merge_joined : MergeJoined
merge_joined levels trace x e m whole enough old new r h room =
    let z = h.written room in
    let f = fits z.0 z.1 in
    by z.0 f (left enough whole m z.0 f (m.judged (eq-eqb (length x.result) result_length whole) z.0 z.1)) z.2 z.3
  where
    by : (j : Judgement) → Fits j → Left x.output e.outputs.output e.outputs.result e.answer j → is_ok r ≡ is_merged j → Written (printed_for j) old new (length_of r) → MergeTold x.output e old new r
    by (refused n line field) s l a w = record {
      accepted = λ t. absurd (omega (arith, s.some, l.0));
      refused = λ t. (a, subst (λ (u : List ℕ). Written u old new (length_of r)) (sym (refusal_numbers s l.2)) w);
    }
    by (merged b rs) s l a w = record {
      accepted = λ t. (a, spelled_trace b rs, record { number = count_number s l.2; content = l.1 }, w);
      refused = λ t. absurd (t l.0);
    }
