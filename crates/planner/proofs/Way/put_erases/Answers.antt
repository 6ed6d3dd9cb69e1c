use Rattle.std.proofs.Common.{ℕ, List, length, sym, ap, ◌∙◌, arith}
use lib.Seq.{sets}
use Rattle.planner.proofs.Laying.{chip_entry}
use Rattle.planner.proofs.Way.put_erases.Goals as goal

pub put_head-requires : goal.put_head-requires
put_head-requires c =
    let a = c.args in
    let e = ap (λ (y : List ℕ). length y) (chip_entry a.self.contents.present.now a.self.contents.wanted.now a.self.chip c.if-self.true) in
    omega (arith, e, c.requires)

pub returns-then-self-clause-list_after : goal.returns-then-self-clause-list_after
returns-then-self-clause-list_after c =
    let a = c.args in
    let e = chip_entry a.self.contents.present.now a.self.contents.wanted.now a.self.chip c.if-self.true in
    c.put_head.ensures ∙ ap (λ (y : List ℕ). sets a.list.now 0 y) (sym e)

pub returns-then-self-clause-next : goal.returns-then-self-clause-next
returns-then-self-clause-next c =
    let a = c.args in
    let e = chip_entry a.self.contents.present.now a.self.contents.wanted.now a.self.chip c.if-self.true in
    sym (ap (λ (y : List ℕ). length y) e)
