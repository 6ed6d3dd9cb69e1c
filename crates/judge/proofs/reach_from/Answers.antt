use Rattle.std.proofs.Common.{arith}
use Rattle.law.specs.Choice.{via}
use Rattle.field.proofs.Reading.{got_none, got_one}
use Rattle.field.proofs.Answers.{tells_got}
use Rattle.text.proofs.Standing.{got_record_place}
use Rattle.judge.proofs.ReachLaws.{reach_start, reach_none, reach_end, reach_found, reach_next}
use Rattle.judge.proofs.reach_from.Goals as goal

pub loop-at-init : goal.loop-at-init
loop-at-init c = reach_start

pub returns-in_default : goal.returns-in_default
returns-in_default c = reach_none c.loop-at.invariant c.loop-at-test.true (got_none tells_got c.record_at.ensures c.in_default.is)

pub returns-then-reached_by : goal.returns-then-reached_by
returns-then-reached_by c =
    reach_found c.loop-at.invariant (got_one tells_got c.record_at.ensures _ _ c.in-Ok.is) (via c.reached_by.ensures c.if-reached_by.true)

pub loop-at-smaller : goal.loop-at-smaller
loop-at-smaller c = let l = got_record_place (got_one tells_got c.record_at.ensures _ _ c.in-Ok.is) in omega arith

pub loop-at-preserved : goal.loop-at-preserved
loop-at-preserved c =
    reach_next c.loop-at.invariant (got_one tells_got c.record_at.ensures _ _ c.in-Ok.is) (via c.reached_by.ensures c.if-reached_by.false)

pub returns : goal.returns
returns c = reach_end c.loop-at.invariant c.loop-at-test.false
