use Rattle.law.specs.Choice.{via}
use Rattle.judge.proofs.JudgeLaws.{handed_on, judge_long, judge_bad, judge_long_levels, judge_bad_levels, judge_both}
use Rattle.judge.proofs.judge.Goals as goal

pub returns-then-too_long : goal.returns-then-too_long
returns-then-too_long c = judge_long (via c.too_long.ensures c.if-too_long.true)

pub returns-in_err-board : goal.returns-in_err-board
returns-in_err-board c =
    handed_on c.from_residual.ensures.1 (judge_bad (via c.too_long.ensures c.if-too_long.false) c.check_text.ensures c.in_err-board.was)

pub returns-then-too_long-2 : goal.returns-then-too_long-2
returns-then-too_long-2 c =
    judge_long_levels (via c.too_long.ensures c.if-too_long.false) c.check_text.ensures c.in_ok-board.was (via c.too_long-2.ensures c.if-too_long-2.true)

pub returns-in_err-level : goal.returns-in_err-level
returns-in_err-level c =
    handed_on c.from_residual-in_err-level.ensures.1
    (judge_bad_levels (via c.too_long.ensures c.if-too_long.false) c.check_text.ensures c.in_ok-board.was
    (via c.too_long-2.ensures c.if-too_long-2.false) c.check_levels.ensures c.in_err-level.was)

pub returns : goal.returns
returns c =
    judge_both (via c.too_long.ensures c.if-too_long.false) c.check_text.ensures c.in_ok-board.was
    (via c.too_long-2.ensures c.if-too_long-2.false) c.check_levels.ensures c.in_ok-level.was
