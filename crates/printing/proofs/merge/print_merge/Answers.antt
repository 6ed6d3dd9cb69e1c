use mathlib.Core.Path.{ap, ◌∙◌}
use lib.ListN.{length}
use borrow.Author.Rules.{rules}
use Rattle.printing.proofs.MergeLaws.{merge_accepted, merge_refused}
use Rattle.printing.proofs.OneMerge.{merge_within}
use Rattle.printing.proofs.merge.print_merge.Goals as goal

pub returns-then-answer-eq0 : goal.returns-then-answer-eq0
returns-then-answer-eq0 c =
    let p = merge_accepted c.if-out-lt-MERGE_ROOM.false (search rules) c.merge-answer.ensures c.if-answer-eq0.true c.count_of.ensures in
    record { printed = p; within = merge_within p }

pub returns : goal.returns
returns c =
    let e = c.as_slice-bytes.ensures.held in
    let p = merge_refused c.if-out-lt-MERGE_ROOM.false (search rules) c.merge-answer.ensures c.if-answer-eq0.false c.refusal_of-line.ensures (c.copy_from_slice.ensures.after ∙ e) (ap length e) in
    record { printed = p; within = merge_within p }
