use Rattle.std.proofs.Common.{arith, rules}
use Rattle.entries.proofs.Status.{spells}
use Rattle.entries.proofs.Printing.{short_left, unfit_left, outcome_ready, outcome_left}
use Rattle.entries.proofs.print_plan.Goals as goal

pub returns-then-out-lt-ROOM : goal.returns-then-out-lt-ROOM
returns-then-out-lt-ROOM c =
    let a = c.args in
    short_left a.present.now a.wanted.now a.status.now a.out.now c.status_in-read.result c.status_in-read.ensures
    (λ k. omega (arith, c.type_inv.present k)) (λ k. omega (arith, c.type_inv.wanted k)) c.if-out-lt-ROOM.true

pub returns-in_default : goal.returns-in_default
returns-in_default c =
    let a = c.args in
    unfit_left a.present.now a.wanted.now a.status.now a.out.now c.in_default.ensures c.from.result c.from.ensures c.if-out-lt-ROOM.false c.refusal_line-refusal.ensures
    _ _ c.copy_line.ensures.0 c.copy_line.ensures.1

pub print_outcome-requires : goal.print_outcome-requires
print_outcome-requires c =
    let a = c.args in
    let read = spells a.status.now c.in-Some.bits c.in-Some.ensures in
    outcome_ready a.present.now a.wanted.now a.status.now a.out.now c.in-Some.bits (omega arith) read
    (λ k. omega (arith, c.type_inv.present k)) (λ k. omega (arith, c.type_inv.wanted k))
    _ _ _ _ _ (search rules) (search rules) c.plan-answer.ensures (omega arith) (search rules)

pub returns : goal.returns
returns c =
    let a = c.args in
    let read = spells a.status.now c.in-Some.bits c.in-Some.ensures in
    outcome_left a.present.now a.wanted.now a.status.now a.out.now c.in-Some.bits (omega arith) read
    (λ k. omega (arith, c.type_inv.present k)) (λ k. omega (arith, c.type_inv.wanted k))
    _ _ _ _ _ (search rules) (search rules) c.plan-answer.ensures (omega arith) _ _ c.print_outcome.ensures.0 c.print_outcome.ensures.1
