use Rattle.std.proofs.Common.{arith}
use Rattle.entries.proofs.Printing.{refusal_room, refusal_left, entries_room, cycles_room, plan_left}
use Rattle.entries.proofs.print_outcome.Goals as goal

pub copy_line-requires : goal.copy_line-requires
copy_line-requires c =
    let a = c.args in
    refusal_room a.answer a.list.now a.res.now a.out.now c.requires c.if-answer-ne0.true (omega arith) c.refusal_line.ensures

pub returns-then-answer-ne0 : goal.returns-then-answer-ne0
returns-then-answer-ne0 c =
    let a = c.args in
    refusal_left a.answer a.list.now a.res.now a.out.now c.requires c.if-answer-ne0.true (omega arith) c.refusal_line.ensures
    _ _ c.copy_line.ensures.0 c.copy_line.ensures.1

pub print_entries-at-requires : goal.print_entries-at-requires
print_entries-at-requires c =
    let a = c.args in
    entries_room a.answer a.list.now a.res.now a.out.now c.requires c.if-answer-ne0.false _ c.number_at-number.ensures

pub copy_line-requires-2 : goal.copy_line-requires-2
copy_line-requires-2 c =
    let a = c.args in
    cycles_room a.answer a.list.now a.res.now a.out.now c.requires c.if-answer-ne0.false _ c.number_at-number.ensures
    (omega arith) c.cycles_line.ensures _ c.print_entries-at.ensures.0 _ (omega arith)

pub returns : goal.returns
returns c =
    let a = c.args in
    plan_left a.answer a.list.now a.res.now a.out.now c.requires c.if-answer-ne0.false _ c.number_at-number.ensures
    (omega arith) c.cycles_line.ensures _ c.print_entries-at.ensures.0 _ _ _ c.print_entries-at.ensures.1 c.copy_line-2.ensures.0 c.copy_line-2.ensures.1
