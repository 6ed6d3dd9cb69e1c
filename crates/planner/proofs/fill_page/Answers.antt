use Rattle.std.proofs.Common.{refl, ◌∙◌, get_or, arith}
use Rattle.law.specs.Places.{more, all}
use Rattle.planner.proofs.Laying.{filled}
use Rattle.planner.proofs.fill_page.Goals as goal

pub loop-q-preserved : goal.loop-q-preserved
loop-q-preserved c =
    let a = c.args in
    let l = c.loop-q in
    more (λ i x. get_or a.bytes.now i 0) l.q (get_or a.bytes.now l.q 0) a.part.now l.part (omega arith) l.invariant refl

pub returns : goal.returns
returns c =
    let a = c.args in
    c.loop-q.invariant ∙ all (λ i x. get_or a.bytes.now i 0) c.loop-q.q a.part.now (omega arith) ∙ filled a.bytes.now a.part.now c.requires
