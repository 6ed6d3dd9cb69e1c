use Rattle.std.proofs.Common.{List, ℕ, length, ap, ◌∙◌, arith}
use Rattle.std.proofs.lemmas.List.Edits.{sets}
use Rattle.planner.proofs.Laying.{landed}
use Rattle.entries.proofs.output.copy_line.Goals as goal

pub returns : goal.returns
returns c =
    let a = c.args in
    let held = c.as_slice-bytes.ensures.held in
    let e = ap length held in
    let same = c.copy_from_slice.ensures.after ∙ held in
    (omega (arith, e), landed a.out.now c.copy_from_slice.new.self a.at _ (omega (arith, e, ap length same)) (omega (arith, e, c.requires)) ∙ ap (λ (l : List ℕ). sets a.out.now a.at l) same)
